use Rattle.std.proofs.Common.{sym, ap, ◌∙◌}
use Rattle.predicate_lang.specs.Building.{stand_of}
use Rattle.predicate_lang.proofs.Frames.{put_there}
use Rattle.predicate_lang.proofs.building.State.put.Goals as goal

pub returns-in-Operand : goal.returns-in-Operand
returns-in-Operand c =
    let literals = c.args.self.now.literals.items in
    put_there c.args.schema.now.columns c.args.self.now _ c.args.token c.args.at c.on_operand.result _
    (ap (λ spot. stand_of spot literals) (sym c.replace.ensures.value ∙ c.in-Operand.is)) c.on_operand.ensures

pub returns-in-Name : goal.returns-in-Name
returns-in-Name c =
    let literals = c.args.self.now.literals.items in
    put_there c.args.schema.now.columns c.args.self.now _ c.args.token c.args.at c.on_name.result _
    (ap (λ spot. stand_of spot literals) (sym c.replace.ensures.value ∙ c.in-Name.is)) c.on_name.ensures

pub returns-in-Operator : goal.returns-in-Operator
returns-in-Operator c =
    let literals = c.args.self.now.literals.items in
    put_there c.args.schema.now.columns c.args.self.now _ c.args.token c.args.at c.on_operator.result _
    (ap (λ spot. stand_of spot literals) (sym c.replace.ensures.value ∙ c.in-Operator.is)) c.on_operator.ensures

pub returns-in-In : goal.returns-in-In
returns-in-In c =
    let literals = c.args.self.now.literals.items in
    put_there c.args.schema.now.columns c.args.self.now _ c.args.token c.args.at c.on_in.result _
    (ap (λ spot. stand_of spot literals) (sym c.replace.ensures.value ∙ c.in-In.is)) (c.on_in.ensures c.args.schema.now.columns)

pub returns-in-Comma : goal.returns-in-Comma
returns-in-Comma c =
    let literals = c.args.self.now.literals.items in
    put_there c.args.schema.now.columns c.args.self.now _ c.args.token c.args.at c.on_comma.result _
    (ap (λ spot. stand_of spot literals) (sym c.replace.ensures.value ∙ c.in-Comma.is)) c.on_comma.ensures

pub returns-in-Literal : goal.returns-in-Literal
returns-in-Literal c =
    let literals = c.args.self.now.literals.items in
    put_there c.args.schema.now.columns c.args.self.now _ c.args.token c.args.at c.on_literal.result _
    (ap (λ spot. stand_of spot literals) (sym c.replace.ensures.value ∙ c.in-Literal.is)) (c.on_literal.ensures c.args.schema.now.columns)

pub returns-in-Whole : goal.returns-in-Whole
returns-in-Whole c =
    let literals = c.args.self.now.literals.items in
    put_there c.args.schema.now.columns c.args.self.now _ c.args.token c.args.at c.on_whole.result _
    (ap (λ spot. stand_of spot literals) (sym c.replace.ensures.value ∙ c.in-Whole.is)) (c.on_whole.ensures c.args.schema.now.columns)
