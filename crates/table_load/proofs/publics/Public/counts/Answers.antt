use Rattle.std.proofs.Common.{subst, sym}
use Rattle.std.specs.Prelude.{◌<ℤ◌, pos}
use Rattle.std.specs.List.{AllByRecursion}
use Rattle.schema_json.specs.declared.roles.Role.TheVariants.{Count}
use Rattle.table_load.specs.Cells.{AreNumbers}
use Rattle.table_load.specs.SchemaFits.{numbers_there}
use Rattle.table_load.proofs.publics.Public.counts.Goals as goal

pub numbers-requires : goal.numbers-requires
numbers-requires c = (c.requires c.in-Some.place Count c.in-Some.ensures.count).0

pub returns-in-Some-clause-numbers : goal.returns-in-Some-clause-numbers
returns-in-Some-clause-numbers c =
    subst (AreNumbers c.args.self.now.rows) (sym c.numbers.ensures.numbers)
    (numbers_there c.args.self.now c.in-Some.place c.numbers.ensures.public
    (c.requires c.in-Some.place Count c.in-Some.ensures.count).0)

pub returns-in-Some-clause-above : goal.returns-in-Some-clause-above
returns-in-Some-clause-above c =
    subst (AllByRecursion (λ z. pos 0 <ℤ z)) (sym c.numbers.ensures.numbers) (c.requires c.in-Some.place Count c.in-Some.ensures.count).1
