-- What a run knows of its file.
use Rattle.std.specs.Prelude.{◌≡◌, ℕ}
use Rattle.file_adapters.specs.declared.journal_file.Known.{Known}
use Rattle.file_adapters.specs.declared.journal_file.Known.TheVariants.{Nothing, Absent, Open}

-- it is open, and of this length as the run found or left it
abbrev pub IsOpen : {F : Type 0} → ℕ → Known F → Type 0
IsOpen n Nothing = ⊥
IsOpen n Absent = ⊥
IsOpen n (Open opened) = opened.length ≡ n
