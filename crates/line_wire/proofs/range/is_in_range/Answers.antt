use Rattle.std.proofs.Common.{refl}
use Rattle.line_wire.proofs.range.is_in_range.Goals as goal

pub returns-in-Unsafe : goal.returns-in-Unsafe
returns-in-Unsafe c = rw c.in-Unsafe.is (λ _. tt, λ _. refl)

pub returns-in-Wide : goal.returns-in-Wide
returns-in-Wide c = rw c.in-Wide.is (λ _. tt, λ _. refl)

pub returns-in-Line : goal.returns-in-Line
returns-in-Line c = rw c.in-Line.is (λ _. tt, λ _. refl)

pub returns-in-Long : goal.returns-in-Long
returns-in-Long c = rw c.in-Long.is (λ _. tt, λ _. refl)

pub returns-in-Column : goal.returns-in-Column
returns-in-Column c = rw c.in-Column.is (λ _. tt, λ _. refl)

pub returns-in-Kind : goal.returns-in-Kind
returns-in-Kind c = rw c.in-Kind.is (λ _. tt, λ _. refl)

pub returns-in-Empty : goal.returns-in-Empty
returns-in-Empty c = rw c.in-Empty.is (λ _. tt, λ _. refl)

pub returns-in-Full : goal.returns-in-Full
returns-in-Full c = rw c.in-Full.is (λ _. tt, λ _. refl)
