-- A list of records, one by one. Assumes nothing.
use mathlib.Core.Path.{◌≡◌, refl, sym, ap, subst, ◌∙◌}
use mathlib.Core.List.{List, [], ◌∷◌}
use Prim.Native.Nat.{ℕ, suc, ◌+◌, ◌<◌}
use native.Mathlib.Numerals.{add-one}
use lib.ListN.{length}
use Rattle.std.specs.Prelude.{Result, Ok, Err}
use Rattle.amounts.specs.Decline.{value_or, verdict_of}
use Rattle.amounts.proofs.decline.Laws.{was_err}
use Rattle.pages.specs.Page.{Page, ended}
use Rattle.records.specs.Records.{Recorded, call, malformed, first_of, rest_of, behind, records_in, IsFirst}
use Rattle.records.specs.Batch.{onward, record_on, next_on, write_all, end_of}
use Rattle.records.specs.Recorder.{Follows, TakesAll, ends}
use Rattle.records.specs.declared.batch.Stopped.{Stopped}
use Rattle.records.specs.declared.record.Record.{Record}
use Rattle.records.specs.declared.refusal.Refusal.{Refusal}
use Rattle.records.proofs.record.Laws.{records_first, records_end}

-- ---- the first record, and then the rest

write_first : (p : Page) (place : ℕ) (r : Recorded) (rest : List Recorded)
    → write_all p place (r ∷ behind r rest) ≡ onward (record_on p r) place (λ q. write_all q (suc place) rest)
unfolding write_all
write_first p place (call c) rest = refl
write_first p place malformed rest = refl

write_none : (p : Page) (place : ℕ) → write_all p place [] ≡ Ok (ended p)
unfolding write_all
write_none p place = refl

next_is : (s : List ℕ) → 0 < length s → (p : Page) (place : ℕ)
    → write_all p place (records_in s) ≡ onward (record_on p (first_of s)) place (λ q. write_all q (suc place) (records_in (rest_of s)))
next_is s h p place = ap (write_all p place) (records_first s h) ∙ write_first p place (first_of s) (records_in (rest_of s))

all_done : (s : List ℕ) → length s ≡ 0 → (p : Page) (place : ℕ) → write_all p place (records_in s) ≡ Ok (ended p)
all_done s e p place = ap (write_all p place) (records_end s e) ∙ write_none p place

-- ---- whatever takes them

module _ {A : Type 0} (lent : A → ℕ) (at : A → Page → Type 0) where
  -- a page that has taken the records before the rest, which are so many
  pub record Come (s : List ℕ) (b : A) (rest : List ℕ) (place : ℕ) (p : Page) : Type 0 where
    pub page : Page
    pub is_at : at b page
    pub so_far : write_all page place (records_in rest) ≡ write_all p 0 (records_in s)

  pub record Upto (s : List ℕ) (a b : A) (rest : List ℕ) (place : ℕ) : Type 0 where
    pub lent_stays : lent b ≡ lent a
    pub come : (p : Page) → at a p → Come s b rest place p

  -- what the next record makes is what the first of the rest does
  first_taken : (rest : List ℕ) (r : Result Record Refusal) (b c : A) (v : Result Unit Refusal) → IsFirst rest r → Follows lent at (λ p. next_on p r) b c v
      → Follows lent at (λ p. record_on p (first_of rest)) b c v
  first_taken rest (Ok r) b c v e f = rw e f
  first_taken rest (Err why) b c v e f = rw (e.0, ← e.1) f

  module _ (s : List ℕ) (a b : A) (rest : List ℕ) (place : ℕ) (u : Upto s a b rest place) where
    -- a record that is taken
    pub upto_next : (c : A) (r : Result Record Refusal) → 0 < length rest → IsFirst rest r → Follows lent at (λ p. next_on p r) b c (Ok (tt {0}))
        → Upto s a c (rest_of rest) (place + 1)
    upto_next c r h first k =
        let f = first_taken rest r b c _ first k in
        record {
          lent_stays = f.lent_stays ∙ u.lent_stays;
          come = λ p k. let x = u.come p k in
              go p x (record_on x.page (first_of rest)) refl (f.verdict x.page x.is_at) (f.after x.page x.is_at);
        }
      where
        go : (p : Page) (x : Come s b rest place p) (r : Result Page Refusal) → record_on x.page (first_of rest) ≡ r → Ok (tt {0}) ≡ verdict_of r
            → at c (value_or x.page r) → Come s c (rest_of rest) (place + 1) p
        go p x (Ok q) e v m =
            record {
              page = q;
              is_at = m;
              so_far =
                  ap (λ (n : ℕ). write_all q n (records_in (rest_of rest))) (add-one place)
                  ∙ sym (next_is rest h x.page place ∙ ap (λ (r : Result Page Refusal). onward r place (λ y. write_all y (suc place) (records_in (rest_of rest)))) e)
                  ∙ x.so_far;
            }
        go p x (Err n) e v m = cc

    -- a record that isn't
    pub upto_stop : (c : A) (r : Result Record Refusal) (n : Refusal) → 0 < length rest → IsFirst rest r → Follows lent at (λ p. next_on p r) b c (Err n)
        → TakesAll lent at s a c (Err (record { refusal = n; place = place }))
    upto_stop c r n h first k =
        record {
          lent_stays = f.lent_stays ∙ u.lent_stays;
          value = λ p k. ap end_of (sym (is p k));
          after = λ p q k e. let z = sym e ∙ is p k in cc;
        }
      where
        f : Follows lent at (λ p. record_on p (first_of rest)) b c (Err n)
        f = first_taken rest r b c _ first k

        is : (p : Page) → at a p → write_all p 0 (records_in s) ≡ Err (record { refusal = n; place = place })
        is p k =
            let x = u.come p k in
            sym x.so_far
            ∙ next_is rest h x.page place
            ∙ ap (λ (r : Result Page Refusal). onward r place (λ y. write_all y (suc place) (records_in (rest_of rest))))
            (was_err (record_on x.page (first_of rest)) n (f.verdict x.page x.is_at))

    -- none is left
    pub upto_end : (c : A) (n : ℕ) → length rest ≡ 0 → Follows lent at ends b c (Ok (tt {0})) → ((p : Page) → at c p → n ≡ p.filled) → TakesAll lent at s a c (Ok n)
    upto_end c n h f filled =
        record {
          lent_stays = f.lent_stays ∙ u.lent_stays;
          value = λ p k. let x = u.come p k in ap Ok (filled (ended x.page) (f.after x.page x.is_at)) ∙ ap end_of (sym (is p k));
          after = λ p q k e. let x = u.come p k in subst (at c) (complete_same (ended x.page) q (sym (is p k) ∙ e)) (f.after x.page x.is_at);
        }
      where
        is : (p : Page) (k : at a p) → write_all p 0 (records_in s) ≡ Ok (ended (u.come p k).page)
        is p k = let x = u.come p k in sym x.so_far ∙ all_done rest h x.page place

        complete_same : (x y : Page) → ◌≡◌ {A = Result Page Stopped} (Ok x) (Ok y) → x ≡ y
        complete_same x y e = cc

-- what ends with a length is whole
pub whole : (o : Result Page Stopped) (n : ℕ) → Ok n ≡ end_of o → (p : Page) × (o ≡ Ok p)
whole (Ok p) n e = (p, refl)
whole (Err why) n e = cc
