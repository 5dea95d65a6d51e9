-- Packing and unpacking undo each other, and an answer that fits has a word of 64 bits.
use Prim.Native.Nat.{ℕ, ◌+◌, ◌*◌, ◌/◌, ◌%◌, ◌^◌, ◌<◌}
use mathlib.Core.Path.{◌≡◌, sym, ap, subst, ◌∙◌}
use native.Mathlib.Omega.{arith}
use Rattle.paper.specs.declared.Answer.{Answer}
use Rattle.replay_c.specs.Word.{packed, unpacked, Fits, Carries}

pub unpacked_packed : (a : Answer) → Fits a → unpacked (packed a) ≡ a
unpacked_packed a h =
    let refusal = h.refusal in
    let place = h.place in
    let steps = h.steps in
    let outcome = h.outcome in
    let root = h.root in
    let waiting = h.waiting in
    let p : (unpacked (packed a)).refusal ≡ a.refusal = omega arith in
    let q : (unpacked (packed a)).place ≡ a.place = omega arith in
    let r : (unpacked (packed a)).steps ≡ a.steps = omega arith in
    let s : (unpacked (packed a)).outcome ≡ a.outcome = omega arith in
    let t : (unpacked (packed a)).root ≡ a.root = omega arith in
    let u : (unpacked (packed a)).waiting ≡ a.waiting = omega arith in
    λ j. record { refusal = p j; place = q j; steps = r j; outcome = s j; root = t j; waiting = u j }

-- equal words are of equal answers
pub packed_once : (a b : Answer) → Fits a → Fits b → packed a ≡ packed b → a ≡ b
packed_once a b h k e = sym (unpacked_packed a h) ∙ ap unpacked e ∙ unpacked_packed b k

-- what a word carries is what comes out of it
pub carried : {w : ℕ} {a : Answer} → Carries w a → unpacked w ≡ a
carried {w} {a} h = ap unpacked h.word ∙ unpacked_packed a h.fits

-- a word that carries an answer carries an equal one
-- docs/PORT.md names it
pub carries_as : {w : ℕ} {a b : Answer} → Carries w a → a ≡ b → Carries w b
carries_as {w} h e = subst (Carries w) e h

-- an answer that fits has a word of 64 bits
pub packed_below : (a : Answer) → Fits a → packed a < 2 ^ 64
packed_below a h =
    let refusal = h.refusal in
    let place = h.place in
    let steps = h.steps in
    let outcome = h.outcome in
    let root = h.root in
    let waiting = h.waiting in
    omega arith

-- parts of a number, each the next times a power of two and what is left
module _ (w : ℕ) where
  above_steps : w / 2 ^ 40 ≡ 2 ^ 16 * (w / 2 ^ 56) + w / 2 ^ 40 % 2 ^ 16
  above_steps = omega arith

  above_outcome : w / 2 ^ 24 ≡ 2 ^ 16 * (w / 2 ^ 40) + w / 2 ^ 24 % 2 ^ 16
  above_outcome = omega arith

  above_root : w / 2 ^ 16 ≡ 2 ^ 8 * (w / 2 ^ 24) + w / 2 ^ 16 % 2 ^ 8
  above_root = omega arith

  above_waiting : w / 2 ^ 8 ≡ 2 ^ 8 * (w / 2 ^ 16) + w / 2 ^ 8 % 2 ^ 8
  above_waiting = omega arith

  whole : w ≡ 2 ^ 8 * (w / 2 ^ 8) + w % 2 ^ 8
  whole = omega arith

parts_together : (w p q r s : ℕ) (a : Answer) → w ≡ 2 ^ 8 * p + a.waiting → p ≡ 2 ^ 8 * q + a.root → q ≡ 2 ^ 8 * r + a.outcome → r ≡ 2 ^ 16 * s + a.steps → s ≡ 2 ^ 16 * a.refusal + a.place → packed a ≡ w
parts_together w p q r s a e f g h i = omega arith

pub packed_unpacked : (w : ℕ) → packed (unpacked w) ≡ w
packed_unpacked w =
    parts_together w (w / 2 ^ 8) (w / 2 ^ 16) (w / 2 ^ 24) (w / 2 ^ 40) (unpacked w) (whole w) (above_waiting w) (above_root w) (above_outcome w) (above_steps w)
