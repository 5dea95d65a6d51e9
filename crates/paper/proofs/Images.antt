-- A sound image and the marks and messages that it shows determine each other.
use Prim.Native.Nat.{ℕ, zero, suc, ◌+◌, ◌-◌, ◌*◌, ◌/◌, ◌<◌, ◌≤◌}
use mathlib.Core.Bool.{Bool, true, false, not, cond, ◌&&◌, false≢true}
use mathlib.Core.Path.{◌≡◌, refl, sym, ap, subst, ◌∙◌, fun_ext}
use mathlib.Core.Logic.{◌⊎◌, inl, inr}
use mathlib.Core.List.{List, [], ◌∷◌, ◌++◌}
use lib.Dec.{eqb, ltb}
use lib.ListN.{length, get_or, length-append}
use lib.Seq.{ext_get_or}
use borrow.Author.Tests.{eqb-true, ltb-true, ltb-false, lt-ltb, le-ltb}
use native.Mathlib.Omega.{arith}
use native.Mathlib.Decide.{ℕ_discrete, dec_lt}
use Rattle.counting.specs.Count.{bit, all, list_of, joined}
use Rattle.counting.proofs.Bits.{bit_most}
use Rattle.counting.proofs.Lists.{get_or_below, get_or_from, length_list_of, get_or_list_of}
use Rattle.std.proofs.lemmas.Bool.{and_from}
use Rattle.counting.proofs.Booleans.{and_left, and_right}
use Rattle.counting.proofs.Tests.{all_true, all_holds}
use Rattle.paper.specs.Upload.{byte_at}
use Rattle.paper.specs.Table.{Table, source, target, EndsBelow}
use Rattle.paper.specs.State.{Message, none, request, acknowledgement, State, fresh}
use Rattle.paper.specs.Steps.{Step, children_known, add_child, acknowledge, resolve, become_root, possible, effect, at, sends, carries}
use Rattle.paper.specs.Image.{node_byte, message_number, direction_byte, image_of, image_length, direction_at, odd, message_of, state_of, sound_direction, sound, fits}
use Rattle.paper.specs.Meanings.{Shown, SoundMarks}
use Rattle.paper.proofs.Changes.{at_elim, at_away, at_direction_elim, at_direction_away, possible_in_table}

-- two bytes for each link, the second behind the first
pairs : (ℕ → Bool → ℕ) → ℕ → List ℕ
pairs f i = f i false ∷ f i true ∷ []

length_pairs : (n : ℕ) (f : ℕ → Bool → ℕ) → length (joined n (pairs f)) ≡ 2 * n
unfolding joined pairs
length_pairs zero f = refl
length_pairs (suc n) f = let h = length_pairs n f in length-append (joined n (pairs f)) (pairs f n) ∙ omega arith

get_or_pairs : (n : ℕ) (f : ℕ → Bool → ℕ) (i : ℕ) (b : Bool) → i < n → get_or (joined n (pairs f)) (2 * i + bit b) 0 ≡ f i b
unfolding joined pairs
get_or_pairs zero f i b h = absurd (omega arith)
get_or_pairs (suc n) f i b h = go (ℕ_discrete i n) b (get_or_pairs n f i b)
  where
    go : Dec (i ≡ n) → (b : Bool) → (i < n → get_or (joined n (pairs f)) (2 * i + bit b) 0 ≡ f i b) → get_or (joined n (pairs f) ++ pairs f n) (2 * i + bit b) 0 ≡ f i b
    go (yes q) false below = get_or_from (joined n (pairs f)) (pairs f n) 0 (2 * n) 0 _ (length_pairs n f) (omega arith) ∙ ap (λ k. f k false) (sym q)
    go (yes q) true below = get_or_from (joined n (pairs f)) (pairs f n) 0 (2 * n) 1 _ (length_pairs n f) (omega arith) ∙ ap (λ k. f k true) (sym q)
    go (no q) false below = get_or_below (joined n (pairs f)) (pairs f n) 0 (2 * n) _ (length_pairs n f) (omega arith) ∙ below (omega arith)
    go (no q) true below = get_or_below (joined n (pairs f)) (pairs f n) 0 (2 * n) _ (length_pairs n f) (omega arith) ∙ below (omega arith)

pub length_image : (t : Table) (s : State) → length (image_of t s) ≡ image_length t
unfolding image_of pairs
length_image t s =
    let nodes = length_list_of t.nodes (node_byte s) in
    let directions = length_pairs t.links (direction_byte s) in
    length-append (list_of t.nodes (node_byte s)) (joined t.links (pairs (direction_byte s))) ∙ omega arith

pub image_node : (t : Table) (s : State) (x : ℕ) → x < t.nodes → byte_at (image_of t s) x ≡ node_byte s x
unfolding image_of pairs
image_node t s x h =
    get_or_below (list_of t.nodes (node_byte s)) (joined t.links (pairs (direction_byte s))) 0 t.nodes x (length_list_of t.nodes (node_byte s)) h
    ∙ get_or_list_of t.nodes (node_byte s) 0 x h

pub image_direction : (t : Table) (s : State) (i : ℕ) (b : Bool) → i < t.links → byte_at (image_of t s) (direction_at t i b) ≡ direction_byte s i b
unfolding image_of pairs
image_direction t s i b h =
    get_or_from (list_of t.nodes (node_byte s)) (joined t.links (pairs (direction_byte s))) 0 t.nodes (2 * i + bit b) (direction_at t i b) (length_list_of t.nodes (node_byte s)) (omega arith)
    ∙ get_or_pairs t.links (direction_byte s) i b h

-- a number as twice another and a bit
halves : (k : ℕ) → (i : ℕ) × (b : Bool) × (k ≡ 2 * i + bit b)
halves zero = (0, false, refl)
halves (suc k) = let (i, b, e) = halves k in go i b e
  where
    go : (i : ℕ) (b : Bool) → k ≡ 2 * i + bit b → (i : ℕ) × (b : Bool) × (suc k ≡ 2 * i + bit b)
    go i false e = (i, true, omega arith)
    go i true e = (suc i, false, omega arith)

-- a place of an image is a node's or a direction's
image_place : (t : Table) (j : ℕ) → j < image_length t → (j < t.nodes) ⊎ ((i : ℕ) × (b : Bool) × (i < t.links) × (direction_at t i b ≡ j))
image_place t j h = go (dec_lt j t.nodes) (halves (j - t.nodes))
  where
    go : Dec (j < t.nodes) → (i : ℕ) × (b : Bool) × (j - t.nodes ≡ 2 * i + bit b) → (j < t.nodes) ⊎ ((i : ℕ) × (b : Bool) × (i < t.links) × (direction_at t i b ≡ j))
    go (yes q) half = inl q
    go (no q) half = let (i, b, e) = half in inr (i, b, omega arith, omega arith)

-- the bytes of the nodes and of the directions are all there is of an image
pub image_is : (t : Table) (s : State) (l : List ℕ) → length l ≡ image_length t → ((x : ℕ) → x < t.nodes → byte_at l x ≡ node_byte s x) → ((i : ℕ) (b : Bool) → i < t.links → byte_at l (direction_at t i b) ≡ direction_byte s i b) → l ≡ image_of t s
image_is t s l len nodes directions =
    ext_get_or 0 l (image_of t s) (len ∙ sym (length_image t s)) (λ j h. go j (image_place t j (rw (← len) h)))
  where
    go : (j : ℕ) → (j < t.nodes) ⊎ ((i : ℕ) × (b : Bool) × (i < t.links) × (direction_at t i b ≡ j)) → byte_at l j ≡ byte_at (image_of t s) j
    go j (inl h) = nodes j h ∙ sym (image_node t s j h)
    go j (inr (i, b, h, e)) = subst (λ j. byte_at l j ≡ byte_at (image_of t s) j) e (directions i b h ∙ sym (image_direction t s i b h))

-- the marks that a node byte shows
node_marks : (w c r : Bool) → let byte = bit w + 2 * bit c + 4 * bit r in (odd byte ≡ w) × (odd (byte / 2) ≡ c) × (odd (byte / 4) ≡ r)
node_marks false false false = (refl, refl, refl)
node_marks false false true = (refl, refl, refl)
node_marks false true false = (refl, refl, refl)
node_marks false true true = (refl, refl, refl)
node_marks true false false = (refl, refl, refl)
node_marks true false true = (refl, refl, refl)
node_marks true true false = (refl, refl, refl)
node_marks true true true = (refl, refl, refl)

-- the mark and the message that a direction byte shows
direction_marks : (c : Bool) (m : Message) → let byte = bit c + 2 * message_number m in (odd byte ≡ c) × (message_of (byte / 2) ≡ m)
direction_marks false none = (refl, refl)
direction_marks false request = (refl, refl)
direction_marks false acknowledgement = (refl, refl)
direction_marks true none = (refl, refl)
direction_marks true request = (refl, refl)
direction_marks true acknowledgement = (refl, refl)

-- the node byte of the marks that a byte in range shows is that byte
node_byte_bits : (k : ℕ) → k < 8 → bit (odd k) + 2 * bit (odd (k / 2)) + 4 * bit (odd (k / 4)) ≡ k
unfolding all
node_byte_bits k h = eqb-true _ _ (all_true 8 (λ k. eqb (bit (odd k) + 2 * bit (odd (k / 2)) + 4 * bit (odd (k / 4))) k) refl k h)

direction_byte_bits : (k : ℕ) → k < 6 → bit (odd k) + 2 * message_number (message_of (k / 2)) ≡ k
unfolding all
direction_byte_bits k h = eqb-true _ _ (all_true 6 (λ k. eqb (bit (odd k) + 2 * message_number (message_of (k / 2))) k) refl k h)

pub shown_state_of : (t : Table) (image : List ℕ) → Shown t (state_of t image)
shown_state_of t image =
    record {
      waiting = λ x h. ap (λ b. b && odd (byte_at image x)) (le-ltb _ _ h);
      contending = λ x h. ap (λ b. b && odd (byte_at image x / 2)) (le-ltb _ _ h);
      root = λ x h. ap (λ b. b && odd (byte_at image x / 4)) (le-ltb _ _ h);
      child = λ i b h. ap (λ c. c && odd (byte_at image (direction_at t i b))) (le-ltb _ _ h);
      message = λ i b h. ap (λ c. cond c (message_of (byte_at image (direction_at t i b) / 2)) none) (le-ltb _ _ h);
    }

pub shown_fresh : (t : Table) → Shown t (fresh t)
shown_fresh t =
    record {
      waiting = λ x h. le-ltb _ _ h;
      contending = λ x h. refl;
      root = λ x h. refl;
      child = λ i b h. refl;
      message = λ i b h. refl;
    }

-- a number at the bound or above it isn't one below it
apart : {a k n : ℕ} → a < n → n ≤ k → k ≡ a → ⊥
apart h g e = omega arith

-- a mark that is cleared at a node stays false where it was
cleared : (f : ℕ → Bool) (x j : ℕ) → f j ≡ false → at f x false j ≡ false
cleared f x j h = at_elim (λ b. b ≡ false) f x false j (λ q. refl) (λ q. h)

pub shown_effect : (t : Table) (s : State) (x : Step) → EndsBelow t → Shown t s → possible t s x ≡ true → Shown t (effect t s x)
unfolding effect
shown_effect t s (children_known x) ends shown e =
    record {
      waiting = λ j h. cleared s.waiting x j (shown.waiting j h);
      contending = shown.contending;
      root = shown.root;
      child = shown.child;
      message = λ i b h. ap (λ c. cond (c && eqb (source t i b) x) (sends (s.child i (not b))) (s.message i b)) (le-ltb _ _ h) ∙ shown.message i b h;
    }
shown_effect t s (add_child i b) ends shown e =
    let inside = possible_in_table t s (add_child i b) e in
    record {
      waiting = shown.waiting;
      contending = shown.contending;
      root = shown.root;
      child = λ j c h. at_direction_away s.child i b true j c (apart inside h) ∙ shown.child j c h;
      message = λ j c h. at_direction_away s.message i b none j c (apart inside h) ∙ shown.message j c h;
    }
shown_effect t s (acknowledge i b) ends shown e =
    let inside = possible_in_table t s (acknowledge i b) e in
    record {
      waiting = shown.waiting;
      contending = λ j h. at_away s.contending (target t i b) _ j (apart (ends i (not b) inside) h) ∙ shown.contending j h;
      root = shown.root;
      child = shown.child;
      message = λ j c h. at_direction_away s.message i b none j c (apart inside h) ∙ shown.message j c h;
    }
shown_effect t s (resolve i b) ends shown e =
    let inside = possible_in_table t s (resolve i b) e in
    record {
      waiting = shown.waiting;
      contending = λ j h. cleared (at s.contending (source t i b) false) (target t i b) j (cleared s.contending (source t i b) j (shown.contending j h));
      root = shown.root;
      child = λ j c h. at_direction_away s.child i b true j c (apart inside h) ∙ shown.child j c h;
      message = shown.message;
    }
shown_effect t s (become_root x) ends shown e =
    let inside = possible_in_table t s (become_root x) e in
    record {
      waiting = shown.waiting;
      contending = shown.contending;
      root = λ j h. at_away s.root x true j (apart inside h) ∙ shown.root j h;
      child = shown.child;
      message = shown.message;
    }

-- a mark that an image shows is the state's, where the state has none from n on
shown_mark : (n x : ℕ) (a b : Bool) → (x < n → a ≡ b) → (n ≤ x → b ≡ false) → ltb x n && a ≡ b
shown_mark n x a b inside outside = go (ltb x n) refl
  where
    go : (c : Bool) → ltb x n ≡ c → c && a ≡ b
    go true e = inside (ltb-true x n e)
    go false e = sym (outside (ltb-false x n e))

shown_message : (m i : ℕ) (a b : Message) → (i < m → a ≡ b) → (m ≤ i → b ≡ none) → cond (ltb i m) a none ≡ b
shown_message m i a b inside outside = go (ltb i m) refl
  where
    go : (c : Bool) → ltb i m ≡ c → cond c a none ≡ b
    go true e = inside (ltb-true i m e)
    go false e = sym (outside (ltb-false i m e))

pub state_of_image : (t : Table) (s : State) → Shown t s → state_of t (image_of t s) ≡ s
state_of_image t s shown =
    λ i. record { waiting = fun_ext waiting i; contending = fun_ext contending i; root = fun_ext root i; child = fun_ext (λ j. fun_ext (child j)) i; message = fun_ext (λ j. fun_ext (message j)) i }
  where
    image : List ℕ
    image = image_of t s

    waiting : (x : ℕ) → (state_of t image).waiting x ≡ s.waiting x
    waiting x = shown_mark t.nodes x _ _ (λ h. ap odd (image_node t s x h) ∙ (node_marks (s.waiting x) (s.contending x) (s.root x)).0) (shown.waiting x)

    contending : (x : ℕ) → (state_of t image).contending x ≡ s.contending x
    contending x = shown_mark t.nodes x _ _ (λ h. ap (λ k. odd (k / 2)) (image_node t s x h) ∙ (node_marks (s.waiting x) (s.contending x) (s.root x)).1) (shown.contending x)

    root : (x : ℕ) → (state_of t image).root x ≡ s.root x
    root x = shown_mark t.nodes x _ _ (λ h. ap (λ k. odd (k / 4)) (image_node t s x h) ∙ (node_marks (s.waiting x) (s.contending x) (s.root x)).2) (shown.root x)

    child : (i : ℕ) (b : Bool) → (state_of t image).child i b ≡ s.child i b
    child i b = shown_mark t.links i _ _ (λ h. ap odd (image_direction t s i b h) ∙ (direction_marks (s.child i b) (s.message i b)).0) (shown.child i b)

    message : (i : ℕ) (b : Bool) → (state_of t image).message i b ≡ s.message i b
    message i b = shown_message t.links i _ _ (λ h. ap (λ k. message_of (k / 2)) (image_direction t s i b h) ∙ (direction_marks (s.child i b) (s.message i b)).1) (shown.message i b)

-- what a sound image says of its bytes
sound_node : (t : Table) (image : List ℕ) → sound t image ≡ true → (x : ℕ) → x < t.nodes → byte_at image x < 8
unfolding sound
sound_node t image e x h = ltb-true _ _ (all_true t.nodes (λ x. ltb (byte_at image x) 8) (and_left (all t.nodes (λ x. ltb (byte_at image x) 8)) _ e) x h)

sound_at : (t : Table) (image : List ℕ) → sound t image ≡ true → (i : ℕ) (b : Bool) → i < t.links → sound_direction t image i b ≡ true
unfolding sound
sound_at t image e i b h = go b
  where
    both : sound_direction t image i false && sound_direction t image i true ≡ true
    both = all_true t.links (λ i. sound_direction t image i false && sound_direction t image i true) (and_right (all t.nodes (λ x. ltb (byte_at image x) 8)) _ e) i h

    go : (b : Bool) → sound_direction t image i b ≡ true
    go false = and_left (sound_direction t image i false) _ both
    go true = and_right (sound_direction t image i false) _ both

pub image_of_state : (t : Table) (image : List ℕ) → fits t image ≡ true → sound t image ≡ true → image_of t (state_of t image) ≡ image
image_of_state t image fit e = sym (image_is t (state_of t image) image (eqb-true _ _ fit) nodes directions)
  where
    nodes : (x : ℕ) → x < t.nodes → byte_at image x ≡ node_byte (state_of t image) x
    nodes x h = rw (lt-ltb x t.nodes h) (sym (node_byte_bits (byte_at image x) (sound_node t image e x h)))

    directions : (i : ℕ) (b : Bool) → i < t.links → byte_at image (direction_at t i b) ≡ direction_byte (state_of t image) i b
    directions i b h =
        let range = ltb-true _ _ (and_left (ltb (byte_at image (direction_at t i b)) 6) _ (sound_at t image e i b h)) in
        rw (lt-ltb i t.links h) (sym (direction_byte_bits (byte_at image (direction_at t i b)) range))

-- a waiting source that carries no message, as a test and as a fact
quiet : (w : Bool) (m : Message) → not (w && carries m) ≡ true → w ≡ true → m ≡ none
quiet w none e waits = refl
quiet true request e waits = absurd (false≢true e)
quiet true acknowledgement e waits = absurd (false≢true e)
quiet false request e waits = absurd (false≢true waits)
quiet false acknowledgement e waits = absurd (false≢true waits)

quiet_test : (w : Bool) (m : Message) → (w ≡ true → m ≡ none) → not (w && carries m) ≡ true
quiet_test true m e = ap (λ m. not (carries m)) (e refl)
quiet_test false m e = refl

pub sound_marks : (t : Table) (image : List ℕ) → sound t image ≡ true → SoundMarks t (state_of t image)
sound_marks t image e i b h =
    quiet ((state_of t image).waiting (source t i b)) ((state_of t image).message i b) (and_right (ltb (byte_at image (direction_at t i b)) 6) _ (sound_at t image e i b h))

message_range : (m : Message) → message_number m ≤ 2
message_range none = omega arith
message_range request = omega arith
message_range acknowledgement = omega arith

pub node_range : (s : State) (x : ℕ) → node_byte s x < 8
node_range s x = omega (arith, bit_most (s.waiting x), bit_most (s.contending x), bit_most (s.root x))

pub direction_range : (s : State) (i : ℕ) (b : Bool) → direction_byte s i b < 6
direction_range s i b = omega (arith, bit_most (s.child i b), message_range (s.message i b))

pub sound_image : (t : Table) (s : State) → SoundMarks t s → Shown t s → sound t (image_of t s) ≡ true
unfolding sound
sound_image t s marks shown =
    and_from _ _ (all_holds t.nodes (λ x. ltb (byte_at image x) 8) (λ x h. lt-ltb (byte_at image x) 8 (rw (image_node t s x h) (node_range s x))))
    (all_holds t.links (λ i. sound_direction t image i false && sound_direction t image i true) (λ i h. and_from _ _ (at_each_direction i false h) (at_each_direction i true h)))
  where
    image : List ℕ
    image = image_of t s

    at_each_direction : (i : ℕ) (b : Bool) → i < t.links → sound_direction t image i b ≡ true
    at_each_direction i b h =
        and_from _ _ (lt-ltb (byte_at image (direction_at t i b)) 6 (rw (image_direction t s i b h) (direction_range s i b)))
        (subst (λ r. not (r.waiting (source t i b) && carries (r.message i b)) ≡ true) (sym (state_of_image t s shown)) (quiet_test (s.waiting (source t i b)) (s.message i b) (marks i b h)))

pub sound_kept : (t : Table) (s : State) (x : Step) → SoundMarks t s → SoundMarks t (effect t s x)
unfolding effect
sound_kept t s (children_known x) marks = λ i b h waits. go i b h (eqb (source t i b) x) waits
  where
    go : (i : ℕ) (b : Bool) → i < t.links → (here : Bool) → cond here false (s.waiting (source t i b)) ≡ true → cond (ltb i t.links && here) (sends (s.child i (not b))) (s.message i b) ≡ none
    go i b h true waits = absurd (false≢true waits)
    go i b h false waits = rw (lt-ltb i t.links h) (marks i b h waits)
sound_kept t s (add_child j c) marks =
    λ i b h waits. at_direction_elim (λ m. m ≡ none) s.message j c none i b refl (marks i b h waits)
sound_kept t s (acknowledge j c) marks =
    λ i b h waits. at_direction_elim (λ m. m ≡ none) s.message j c none i b refl (marks i b h waits)
sound_kept t s (resolve j c) marks = marks
sound_kept t s (become_root x) marks = marks

pub sound_fresh : (t : Table) → SoundMarks t (fresh t)
sound_fresh t i b h waits = refl
