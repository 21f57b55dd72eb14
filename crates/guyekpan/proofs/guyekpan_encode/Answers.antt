use Rattle.std.proofs.Common.{false, Ok, Err, Result, refl}
use Rattle.std.specs.Result.{IsOk, OnOk}
use Rattle.algebra.proofs.Marks.{true_false}
use Rattle.refusal.specs.declared.Refusal.{Refusal}
use Rattle.guyekpan.proofs.guyekpan_encode.Goals as goal

on_ok : {P : Type 0} (r : Result (Unit {0}) Refusal) → IsOk r → OnOk r P → P
on_ok (Ok u) is p = p
on_ok (Err e) is p = absurd (true_false false is refl)

pub returns-clause-done : goal.returns-clause-done
returns-clause-done c = λ zero. rw c.one_block.ensures at (on_ok c.encode.result (c.number.ensures.zero zero) c.encode.ensures.done)
