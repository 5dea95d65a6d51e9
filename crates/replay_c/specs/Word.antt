-- The six numbers of an answer in one word of 64 bits, and the word taken apart again.
use Rattle.std.specs.Prelude.{ℕ, ◌+◌, ◌*◌, ◌/◌, ◌%◌, ◌^◌, ◌<◌, ◌≡◌}
use Rattle.paper.specs.declared.Answer.{Answer}

-- from the highest bits down: refusal 8, place 16, steps 16, outcome 8, root 8, waiting 8
abbrev pub packed : Answer → ℕ
packed a =
    2 ^ 56 * a.refusal + 2 ^ 40 * a.place + 2 ^ 24 * a.steps + 2 ^ 16 * a.outcome + 2 ^ 8 * a.root + a.waiting

abbrev pub unpacked : ℕ → Answer
unpacked w =
    record {
      refusal = w / 2 ^ 56;
      place = w / 2 ^ 40 % 2 ^ 16;
      steps = w / 2 ^ 24 % 2 ^ 16;
      outcome = w / 2 ^ 16 % 2 ^ 8;
      root = w / 2 ^ 8 % 2 ^ 8;
      waiting = w % 2 ^ 8;
    }

-- each number of an answer is below the power of two that its bits allow
pub record Fits (a : Answer) : Type 0 where
  pub refusal : a.refusal < 2 ^ 8
  pub place : a.place < 2 ^ 16
  pub steps : a.steps < 2 ^ 16
  pub outcome : a.outcome < 2 ^ 8
  pub root : a.root < 2 ^ 8
  pub waiting : a.waiting < 2 ^ 8

-- a word carries an answer: it is the answer packed, and no number of the answer is cut off
pub record Carries (w : ℕ) (a : Answer) : Type 0 where
  pub word : w ≡ packed a
  pub fits : Fits a
