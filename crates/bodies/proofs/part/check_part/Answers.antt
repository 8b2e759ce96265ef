use Rattle.bodies.proofs.part.check_part.Goals as goal

pub returns-in-Materials : goal.returns-in-Materials
returns-in-Materials c = rw c.in-Materials.is c.check_setup.ensures
