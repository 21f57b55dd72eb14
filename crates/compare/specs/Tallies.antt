-- What is counted of the cases.
use Rattle.std.specs.Prelude.{◌≡◌, ◌≤◌, string_bytes}
use Rattle.compare.specs.declared.Case.{Case}
use Rattle.compare.specs.declared.Tally.{Tally}

-- the library gave what it must
abbrev pub IsAsExpected : Case → Type 0
IsAsExpected case = string_bytes case.got ≡ case.expected.now

-- no count falls
abbrev pub Grows : Tally → Tally → Type 0
Grows old new = (old.differ ≤ new.differ) × (old.errors ≤ new.errors)

-- every line was a case with the library's result
abbrev pub IsClean : Tally → Type 0
IsClean tally = (tally.differ ≡ 0) × (tally.errors ≡ 0)
