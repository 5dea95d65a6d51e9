-- The messages of children known, link by link: the bytes that they change, and the state that they show.
use Prim.Native.Nat.{ℕ, ◌+◌, ◌*◌, ◌%◌, ◌<◌}
use mathlib.Core.Bool.{Bool, true, false, not, cond, ◌&&◌, ◌||◌, beq}
use mathlib.Core.Path.{◌≡◌, refl, sym, ap, ◌∙◌, fun_ext}
use native.Mathlib.Omega.{arith}
use native.Mathlib.Decide.{ℕ_discrete, dec_lt}
use lib.Dec.{ltb, eqb}
use borrow.Author.Tests.{eq-eqb, ne_eqb, lt-ltb, le-ltb}
use Rattle.counting.specs.Count.{bit}
use Rattle.counting.proofs.Bits.{bit_most}
use Rattle.paper.specs.Table.{Table, source}
use Rattle.paper.specs.State.{Message, State}
use Rattle.paper.specs.Steps.{sends}
use Rattle.paper.specs.Image.{message_number, direction_byte, image_of, direction_at, odd, state_of}
use Rattle.paper.proofs.Images.{image_direction}
use Rattle.image.specs.Parts.{sent_where, sent_below, stopped_byte, message_byte, changed, sent, sent_on}
use Rattle.image.proofs.Stored.{image_same, node_changed, direction_changed, direction_split, waiting_kept}

odd_child : (c : Bool) (k : ℕ) → odd (bit c + 2 * k) ≡ c
odd_child true k = eq-eqb ((1 + 2 * k) % 2) 1 (omega arith)
odd_child false k = ne_eqb ((0 + 2 * k) % 2) 1 (λ e. omega arith)

-- the image of a state shows its child marks
child_shown : (t : Table) (s : State) (i : ℕ) (b : Bool) → i < t.links → (state_of t (image_of t s)).child i b ≡ s.child i b
child_shown t s i b h =
    rw (lt-ltb i t.links h, image_direction t s i b h) (odd_child (s.child i b) (message_number (s.message i b)))

-- the number of the message that is sent
sends_number : (d : Bool) → 1 + bit d ≡ message_number (sends d)
sends_number true = refl
sends_number false = refl

cond_never : (a : Bool) (m n : Message) → n ≡ cond (a && false) m n
cond_never true m n = refl
cond_never false m n = refl

-- the direction (i, b), or one that passes the test
abbrev also : (ℕ → Bool → Bool) → ℕ → Bool → ℕ → Bool → Bool
also p i b j c = (eqb j i && beq c b) || p j c

sent_step : (t : Table) (s : State) (x : ℕ) (p : ℕ → Bool → Bool) (i : ℕ) (b : Bool) → i < t.links → sent t x i b (image_of t (sent_where t s x p)) ≡ image_of t (sent_where t s x (also p i b))
unfolding sent
sent_step t s x p i b h = go (eqb (source t i b) x) refl
  where
    v : State
    v = sent_where t s x p

    byte : ℕ → ℕ
    byte = message_byte (1 + bit (s.child i (not b)))

    go : (here : Bool) → eqb (source t i b) x ≡ here → cond here (changed (message_byte (1 + bit ((state_of t (image_of t v)).child i (not b)))) (direction_at t i b) (image_of t v)) (image_of t v) ≡ image_of t (sent_where t s x (also p i b))
    go true e =
        ap (λ d. changed (message_byte (1 + bit d)) (direction_at t i b) (image_of t v)) (child_shown t v i (not b) h)
        ∙ direction_changed byte t v (sent_where t s x (also p i b)) i b h (λ y. refl)
        (direction_split
        (λ j c d. cond d (byte (direction_byte v j c)) (direction_byte v j c) ≡ bit (s.child j c) + 2 * message_number (cond ((d || p j c) && eqb (source t j c) x) (sends (s.child j (not c))) (s.message j c)))
        i
        b
        (rw e (omega (arith, bit_most (s.child i b), sends_number (s.child i (not b)))))
        (λ j c. refl))
    go false e =
        image_same t v (sent_where t s x (also p i b)) (λ y. refl)
        (direction_split
        (λ j c d. direction_byte v j c ≡ bit (s.child j c) + 2 * message_number (cond ((d || p j c) && eqb (source t j c) x) (sends (s.child j (not c))) (s.message j c)))
        i
        b
        (rw e (ap (λ m. bit (s.child i b) + 2 * message_number m) (sym (cond_never (p i b) (sends (s.child i (not b))) (s.message i b)))))
        (λ j c. refl))

one_more : (k j : ℕ) (c : Bool) → also (also (λ i b. ltb i k) k false) k true j c ≡ ltb j (k + 1)
one_more k j c = go (ℕ_discrete j k) (dec_lt j k) c
  where
    go : Dec (j ≡ k) → Dec (j < k) → (c : Bool) → also (also (λ i b. ltb i k) k false) k true j c ≡ ltb j (k + 1)
    go (yes e) d true = rw (eq-eqb j k e) (sym (lt-ltb j (k + 1) (omega arith)))
    go (yes e) d false = rw (eq-eqb j k e) (sym (lt-ltb j (k + 1) (omega arith)))
    go (no e) (yes l) c = rw (ne_eqb j k e, lt-ltb j k l) (sym (lt-ltb j (k + 1) (omega arith)))
    go (no e) (no l) c = rw (ne_eqb j k e, le-ltb j k (omega arith)) (sym (le-ltb j (k + 1) (omega arith)))

-- where the messages begin, x has stopped waiting
pub sent_none : (t : Table) (s : State) (x : ℕ) → x < t.nodes → changed stopped_byte x (image_of t s) ≡ image_of t (sent_below t s x 0)
sent_none t s x h =
    node_changed stopped_byte t s (sent_below t s x 0) x h (λ y. waiting_kept (eqb y x) (s.waiting y) (s.contending y) (s.root y)) (λ i b. rw (le-ltb i 0 (omega arith)))

-- one link more
pub sent_more : (t : Table) (s : State) (x k : ℕ) → k < t.links → sent_on t x k (image_of t (sent_below t s x k)) ≡ image_of t (sent_below t s x (k + 1))
unfolding sent_on
sent_more t s x k h =
    ap (sent t x k true) (sent_step t s x (λ i b. ltb i k) k false h)
    ∙ sent_step t s x (also (λ i b. ltb i k) k false) k true h
    ∙ ap (λ p. image_of t (sent_where t s x p)) (fun_ext (λ j. fun_ext (λ c. one_more k j c)))
