-- One byte stored in the image of a state: the image of the state with that mark or message changed.
use Prim.Native.Nat.{ℕ, ◌+◌, ◌*◌, ◌<◌}
use mathlib.Core.Bool.{Bool, true, false, cond, ◌&&◌, beq}
use mathlib.Core.Path.{◌≡◌, refl, ◌∙◌}
use mathlib.Core.List.{List}
use native.Mathlib.Omega.{arith}
use native.Mathlib.Decide.{ℕ_discrete}
use lib.Dec.{eqb}
use lib.ListN.{length, length-set}
use lib.Seq.{get_or-set_same, get_or-set_other}
use borrow.Author.Tests.{eq-eqb, ne_eqb}
use Rattle.counting.specs.Count.{bit}
use Rattle.counting.proofs.Bits.{bit_most}
use Rattle.paper.specs.Upload.{byte_at}
use Rattle.paper.specs.Table.{Table}
use Rattle.paper.specs.State.{Message, State}
use Rattle.paper.specs.Image.{node_byte, message_number, direction_byte, image_of, direction_at}
use Rattle.paper.proofs.Images.{length_image, image_node, image_direction, image_is}
use Rattle.image.specs.Parts.{contending_at, root_at, child_at, message_at, stopped_byte, contending_byte, root_byte, child_byte, message_byte, changed}

-- a list with one byte changed, read at a place
byte_changed : (f : ℕ → ℕ) (j : ℕ) (l : List ℕ) (k : ℕ) → j < length l → byte_at (changed f j l) k ≡ cond (eqb k j) (f (byte_at l k)) (byte_at l k)
byte_changed f j l k h = go (ℕ_discrete k j)
  where
    go : Dec (k ≡ j) → byte_at (changed f j l) k ≡ cond (eqb k j) (f (byte_at l k)) (byte_at l k)
    go (yes e) = rw (eq-eqb k j e, e) (get_or-set_same l j (f (byte_at l j)) 0 h)
    go (no e) = rw (ne_eqb k j e) (get_or-set_other l j k (f (byte_at l j)) 0 e)

-- the place of a direction is no node's, and tells the direction
node_apart : (t : Table) (x i : ℕ) (b : Bool) → x < t.nodes → eqb x (direction_at t i b) ≡ false
node_apart t x i b h = ne_eqb x (direction_at t i b) (λ e. omega arith)

direction_apart : (t : Table) (x i : ℕ) (b : Bool) → x < t.nodes → eqb (direction_at t i b) x ≡ false
direction_apart t x i b h = ne_eqb (direction_at t i b) x (λ e. omega arith)

direction_told : (t : Table) (j i : ℕ) (c b : Bool) → eqb (direction_at t j c) (direction_at t i b) ≡ (eqb j i && beq c b)
direction_told t j i c b = go (ℕ_discrete j i) c b
  where
    go : Dec (j ≡ i) → (c b : Bool) → eqb (direction_at t j c) (direction_at t i b) ≡ (eqb j i && beq c b)
    go (yes e) true true = rw (eq-eqb j i e, e) (eq-eqb (direction_at t i true) (direction_at t i true) refl)
    go (yes e) true false = rw (eq-eqb j i e) (ne_eqb (direction_at t j true) (direction_at t i false) (λ z. omega arith))
    go (yes e) false true = rw (eq-eqb j i e) (ne_eqb (direction_at t j false) (direction_at t i true) (λ z. omega arith))
    go (yes e) false false = rw (eq-eqb j i e, e) (eq-eqb (direction_at t i false) (direction_at t i false) refl)
    go (no e) c b = rw (ne_eqb j i e) (ne_eqb (direction_at t j c) (direction_at t i b) (λ z. e (omega (arith, bit_most c, bit_most b))))

-- images of states with the same bytes are the same
pub image_same : (t : Table) (s u : State) → ((x : ℕ) → node_byte s x ≡ node_byte u x) → ((i : ℕ) (b : Bool) → direction_byte s i b ≡ direction_byte u i b) → image_of t s ≡ image_of t u
image_same t s u nodes directions =
    image_is t u (image_of t s) (length_image t s) (λ x h. image_node t s x h ∙ nodes x) (λ i b h. image_direction t s i b h ∙ directions i b)

-- the byte of node x changed
pub node_changed : (f : ℕ → ℕ) (t : Table) (s u : State) (x : ℕ) → x < t.nodes → ((y : ℕ) → cond (eqb y x) (f (node_byte s y)) (node_byte s y) ≡ node_byte u y) → ((i : ℕ) (b : Bool) → direction_byte s i b ≡ direction_byte u i b) → changed f x (image_of t s) ≡ image_of t u
node_changed f t s u x h nodes directions =
    image_is t u (changed f x l) (simp length-set (length_image t s)) (λ y g. byte_changed f x l y inside ∙ rw (image_node t s y g) (nodes y)) (λ i b g. byte_changed f x l (direction_at t i b) inside ∙ rw (direction_apart t x i b h, image_direction t s i b g) (directions i b))
  where
    l : List ℕ
    l = image_of t s

    inside : x < length l
    inside = rw (length_image t s) (omega arith)

-- the byte of the direction (i, b) changed
pub direction_changed : (f : ℕ → ℕ) (t : Table) (s u : State) (i : ℕ) (b : Bool) → i < t.links → ((x : ℕ) → node_byte s x ≡ node_byte u x) → ((j : ℕ) (c : Bool) → cond (eqb j i && beq c b) (f (direction_byte s j c)) (direction_byte s j c) ≡ direction_byte u j c) → changed f (direction_at t i b) (image_of t s) ≡ image_of t u
direction_changed f t s u i b h nodes directions =
    image_is t u (changed f d l) (simp length-set (length_image t s)) (λ x g. byte_changed f d l x inside ∙ rw (node_apart t x i b g, image_node t s x g) (nodes x)) (λ j c g. byte_changed f d l (direction_at t j c) inside ∙ rw (direction_told t j i c b, image_direction t s j c g) (directions j c))
  where
    l : List ℕ
    l = image_of t s

    d : ℕ
    d = direction_at t i b

    inside : d < length l
    inside = rw (length_image t s) (omega (arith, bit_most b))

-- what holds at the direction (i, b) with the test true, and at each with the test false, holds at each with its own test
pub direction_split : (P : ℕ → Bool → Bool → Type 0) (i : ℕ) (b : Bool) → P i b true → ((j : ℕ) (c : Bool) → P j c false) → (j : ℕ) (c : Bool) → P j c (eqb j i && beq c b)
direction_split P i b here there j c = go (ℕ_discrete j i) c b here
  where
    go : Dec (j ≡ i) → (c b : Bool) → P i b true → P j c (eqb j i && beq c b)
    go (yes e) true true here = rw (eq-eqb j i e, e) here
    go (yes e) true false here = rw (eq-eqb j i e) (there j true)
    go (yes e) false true here = rw (eq-eqb j i e) (there j false)
    go (yes e) false false here = rw (eq-eqb j i e, e) here
    go (no e) c b here = rw (ne_eqb j i e) (there j c)

-- a node byte with one mark changed, or left as it is
root_kept : (here w c r : Bool) → let byte = bit w + 2 * bit c + 4 * bit r in cond here (root_byte byte) byte ≡ bit w + 2 * bit c + 4 * bit (cond here true r)
root_kept false w c r = refl
root_kept true w c r = omega (arith, bit_most w, bit_most c)

contending_kept : (here d w c r : Bool) → let byte = bit w + 2 * bit c + 4 * bit r in cond here (contending_byte d byte) byte ≡ bit w + 2 * bit (cond here d c) + 4 * bit r
contending_kept false d w c r = refl
contending_kept true d w c r = omega (arith, bit_most w, bit_most c)

pub waiting_kept : (here w c r : Bool) → let byte = bit w + 2 * bit c + 4 * bit r in cond here (stopped_byte byte) byte ≡ bit (cond here false w) + 2 * bit c + 4 * bit r
waiting_kept false w c r = refl
waiting_kept true w c r = omega (arith, bit_most w)

-- a direction byte with child set, with its message changed, or left as it is
child_kept : (here d : Bool) (k : ℕ) → cond here (child_byte (bit d + 2 * k)) (bit d + 2 * k) ≡ bit (cond here true d) + 2 * k
child_kept false d k = refl
child_kept true d k = omega (arith, bit_most d)

message_kept : (here d : Bool) (n m : Message) → let byte = bit d + 2 * message_number m in cond here (message_byte (message_number n) byte) byte ≡ bit d + 2 * message_number (cond here n m)
message_kept false d n m = refl
message_kept true d n m = omega (arith, bit_most d)

pub root_stored : (t : Table) (s : State) (x : ℕ) → x < t.nodes → changed root_byte x (image_of t s) ≡ image_of t (root_at s x)
root_stored t s x h =
    node_changed root_byte t s (root_at s x) x h (λ y. root_kept (eqb y x) (s.waiting y) (s.contending y) (s.root y)) (λ i b. refl)

pub contending_stored : (t : Table) (s : State) (x : ℕ) (c : Bool) → x < t.nodes → changed (contending_byte c) x (image_of t s) ≡ image_of t (contending_at s x c)
contending_stored t s x c h =
    node_changed (contending_byte c) t s (contending_at s x c) x h (λ y. contending_kept (eqb y x) c (s.waiting y) (s.contending y) (s.root y)) (λ i b. refl)

pub child_stored : (t : Table) (s : State) (i : ℕ) (b : Bool) → i < t.links → changed child_byte (direction_at t i b) (image_of t s) ≡ image_of t (child_at s i b)
child_stored t s i b h =
    direction_changed child_byte t s (child_at s i b) i b h (λ x. refl) (λ j c. child_kept (eqb j i && beq c b) (s.child j c) (message_number (s.message j c)))

pub message_stored : (t : Table) (s : State) (i : ℕ) (b : Bool) (m : Message) → i < t.links → changed (message_byte (message_number m)) (direction_at t i b) (image_of t s) ≡ image_of t (message_at s i b m)
message_stored t s i b m h =
    direction_changed (message_byte (message_number m)) t s (message_at s i b m) i b h (λ x. refl) (λ j c. message_kept (eqb j i && beq c b) (s.child j c) m (s.message j c))
