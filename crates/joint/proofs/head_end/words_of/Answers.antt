use Rattle.std.proofs.Common.{rules, ◌≡◌, ◌++◌, ◌∷◌, [], inl, inr, length, ◌∙◌, arith}
use Rattle.std.proofs.lemmas.Bool.{cases_lt}
use Rattle.joint.proofs.Words.{word_turn, words_behind}
use Rattle.joint.proofs.head_end.words_of.Goals as goal

pub loop-four-preserved : goal.loop-four-preserved
loop-four-preserved c =
    let v = c.loop-four.invariant in
    let (size, step) = c.in-Some.ensures.steps in
    let items : c.push.new.self.items ≡ c.loop-four.words.items ++ c.word.result ∷ [] = search rules in
    record {
      size = size ∙ v.size;
      read = rw (items, c.word.ensures) (word_turn c.args.bytes.now c.loop-four.words.items _ c.in-Some.four.now c.next.new.self.rest.now c.loop-four.four-iterator.size v.size v.read step);
    }

pub returns : goal.returns
returns c =
    let v = c.loop-four.invariant in
    let (cut, filled) = c.in_ok-resize.ensures.by_index in
    let done : length c.loop-four.four-iterator.rest.now ≡ 0 = search rules in
    record {
      long = search rules;
      each = λ i lt. elim (cases_lt i (length c.loop-four.words.items)) [
        | inl below ↦ cut i 0 lt (omega arith) ∙ v.read.each i below
        | inr above ↦ filled i 0 (search rules) (omega arith) lt ∙ words_behind c.args.bytes.now c.loop-four.words.items c.loop-four.four-iterator.rest.now v.read done i above
      ];
    }
