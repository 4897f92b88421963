use Rattle.std.proofs.Common.{sym, ap, ◌∙◌}
use Rattle.line_wire.specs.Reply.{reply_bytes}
use Rattle.line_wire.proofs.reply.write_reply.Goals as goal

pub returns-in-Count : goal.returns-in-Count
returns-in-Count c = record { count = c.write_number.ensures.count; bytes = c.write_number.ensures.bytes ∙ sym (ap reply_bytes c.in-Count.is) }

pub returns-in-Unsafe : goal.returns-in-Unsafe
returns-in-Unsafe c = record { count = c.write_denial.ensures.count; bytes = c.write_denial.ensures.bytes ∙ sym (ap reply_bytes c.in-Unsafe.is) }

pub returns-in-Wide : goal.returns-in-Wide
returns-in-Wide c = record { count = c.write_denial-in-Wide.ensures.count; bytes = c.write_denial-in-Wide.ensures.bytes ∙ sym (ap reply_bytes c.in-Wide.is) }

pub returns-in-Line : goal.returns-in-Line
returns-in-Line c = record { count = c.write_refusal.ensures.count; bytes = c.write_refusal.ensures.bytes ∙ sym (ap reply_bytes c.in-Line.is) }

pub returns-in-Long : goal.returns-in-Long
returns-in-Long c = record { count = c.write_refusal-in-Long.ensures.count; bytes = c.write_refusal-in-Long.ensures.bytes ∙ sym (ap reply_bytes c.in-Long.is) }

pub returns-in-Column : goal.returns-in-Column
returns-in-Column c =
    record { count = c.write_refusal-in-Column.ensures.count; bytes = c.write_refusal-in-Column.ensures.bytes ∙ sym (ap reply_bytes c.in-Column.is) }

pub returns-in-Kind : goal.returns-in-Kind
returns-in-Kind c = record { count = c.write_refusal-in-Kind.ensures.count; bytes = c.write_refusal-in-Kind.ensures.bytes ∙ sym (ap reply_bytes c.in-Kind.is) }

pub returns-in-Condition : goal.returns-in-Condition
returns-in-Condition c =
    record { count = c.write_number-in-Condition.ensures.count; bytes = c.write_number-in-Condition.ensures.bytes ∙ sym (ap reply_bytes c.in-Condition.is) }

pub returns-in-Empty : goal.returns-in-Empty
returns-in-Empty c =
    record { count = c.write_refusal-in-Empty.ensures.count; bytes = c.write_refusal-in-Empty.ensures.bytes ∙ sym (ap reply_bytes c.in-Empty.is) }

pub returns-in-Full : goal.returns-in-Full
returns-in-Full c = record { count = c.write_refusal-in-Full.ensures.count; bytes = c.write_refusal-in-Full.ensures.bytes ∙ sym (ap reply_bytes c.in-Full.is) }
