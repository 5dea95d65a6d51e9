-- The tests of the header, the span, the image and the room, in plain terms.
use Prim.Native.Nat.{ℕ, zero, suc, ◌+◌, ◌≤◌, ◌<◌}
use mathlib.Core.Bool.{Bool, true, false, not, ◌&&◌, true≢false, false≢true}
use mathlib.Core.Path.{◌≡◌, refl, sym, ap, subst, ◌∙◌}
use mathlib.Core.Logic.{◌⊎◌, inl, inr}
use mathlib.Core.List.{List}
use native.Mathlib.Omega.{arith}
use native.Mathlib.Decide.{ℕ_discrete}
use lib.ListN.{length}
use lib.Dec.{ltb}
use Rattle.counting.specs.Count.{all}
use Rattle.paper.specs.Upload.{byte_at}
use Rattle.paper.specs.Table.{Table, source}
use Rattle.paper.specs.State.{Message, none, request, acknowledgement}
use Rattle.paper.specs.Steps.{carries}
use Rattle.paper.specs.Image.{direction_at, state_of, sound_direction, sound, fits, image_length}
use Rattle.paper.specs.Meanings.{SoundMarks}
use Rattle.paper.specs.Batch.{count_of, header_end, offset_of, length_of, header_wrong, span_outside}
use Rattle.table.proofs.Tells.{Tells, tells_same, tells_lt, tells_le, tells_eq, tells_not, tells_and, tells_or}
use Rattle.demands.specs.ExactlyWhen.{HeaderWrong, under, over, no_entry, many_entries, entries_beyond, SpanOutside, not_there, early, late, WrongImageLength, BadImage, not_the_length, node_byte_over, direction_byte_over, sends_waiting}

-- what is never so
pub tells_never : Tells false ⊥
tells_never = record { yields = λ e. absurd (false≢true e); denies = λ e h. h }

pub tells_header : (batch : List ℕ) → Tells (header_wrong batch) (HeaderWrong batch)
unfolding header_wrong
tells_header batch =
    tells_same
    (tells_or _ _ (tells_or _ _ (tells_or _ _ (tells_or _ _ (tells_lt _ _) (tells_lt _ _)) (tells_eq _ _)) (tells_lt _ _)) (tells_lt _ _))
    there
    back
  where
    Either : Type 0
    Either = ((((length batch < 4) ⊎ (65536 < length batch)) ⊎ (count_of batch ≡ 0)) ⊎ (64 < count_of batch)) ⊎ (length batch < header_end batch)

    there : Either → HeaderWrong batch
    there (inl (inl (inl (inl h)))) = under h
    there (inl (inl (inl (inr h)))) = over h
    there (inl (inl (inr h))) = no_entry h
    there (inl (inr h)) = many_entries h
    there (inr h) = entries_beyond h

    back : HeaderWrong batch → Either
    back (under h) = inl (inl (inl (inl h)))
    back (over h) = inl (inl (inl (inr h)))
    back (no_entry h) = inl (inl (inr h))
    back (many_entries h) = inl (inr h)
    back (entries_beyond h) = inr h

pub tells_span : (batch : List ℕ) (i : ℕ) → Tells (span_outside batch i) (SpanOutside batch i)
unfolding span_outside
tells_span batch i = tells_same (tells_or _ _ (tells_or _ _ (tells_le _ _) (tells_lt _ _)) (tells_lt _ _)) there back
  where
    Either : Type 0
    Either = ((count_of batch ≤ i) ⊎ (offset_of batch i < header_end batch)) ⊎ (length batch < offset_of batch i + length_of batch i)

    there : Either → SpanOutside batch i
    there (inl (inl h)) = not_there h
    there (inl (inr h)) = early h
    there (inr h) = late h

    back : SpanOutside batch i → Either
    back (not_there h) = inl (inl h)
    back (early h) = inl (inr h)
    back (late h) = inr h

-- not both: one of the two isn't so
pub tells_lacks : (a b : Bool) {P Q : Type 0} → Tells (not a) P → Tells (not b) Q → Tells (not (a && b)) (P ⊎ Q)
tells_lacks true b {P} {Q} s t = record { yields = λ e. inr (t.yields e); denies = neither }
  where
    neither : not b ≡ false → P ⊎ Q → ⊥
    neither e (inl p) = s.denies refl p
    neither e (inr q) = t.denies e q
tells_lacks false b s t = record { yields = λ e. inl (s.yields refl); denies = λ e. absurd (true≢false e) }

-- not all below n: some number isn't so
pub tells_fails : (n : ℕ) (p : ℕ → Bool) (Q : ℕ → Type 0) → ((i : ℕ) → Tells (not (p i)) (Q i)) → Tells (not (all n p)) ((i : ℕ) × (i < n) × Q i)
unfolding all
tells_fails zero p Q t = record { yields = λ e. absurd (false≢true e); denies = λ e w. omega (arith, w.1) }
tells_fails (suc n) p Q t = tells_same (tells_lacks (all n p) (p n) (tells_fails n p Q t) (t n)) there back
  where
    there : ((i : ℕ) × (i < n) × Q i) ⊎ Q n → (i : ℕ) × (i < suc n) × Q i
    there (inl w) = (w.0, omega (arith, w.1), w.2)
    there (inr q) = (n, omega arith, q)

    back : (i : ℕ) × (i < suc n) × Q i → ((i : ℕ) × (i < n) × Q i) ⊎ Q n
    back w = pick (ℕ_discrete w.0 n)
      where
        pick : Dec (w.0 ≡ n) → ((i : ℕ) × (i < n) × Q i) ⊎ Q n
        pick (yes e) = inr (subst Q e w.2)
        pick (no e) = inl (w.0, omega (arith, w.1), w.2)

-- a number at a bound or over it
pub tells_over : (k bound : ℕ) → Tells (not (ltb k bound)) (bound ≤ k)
tells_over k bound = tells_same (tells_not _ (tells_lt k bound)) (λ f. omega arith) (λ h l. omega arith)

-- a direction that carries a message
message_kind : (m : Message) → Tells (carries m) (m ≡ none → ⊥)
message_kind none = record { yields = λ e. absurd (false≢true e); denies = λ e f. f refl }
message_kind request = record { yields = λ e q. false≢true (sym (ap carries q)); denies = λ e. absurd (true≢false e) }
message_kind acknowledgement = record { yields = λ e q. false≢true (sym (ap carries q)); denies = λ e. absurd (true≢false e) }

tells_mark : (b : Bool) → Tells b (b ≡ true)
tells_mark b = record { yields = λ e. e; denies = λ e f. true≢false (sym f ∙ e) }

pub tells_length : (t : Table) (image : List ℕ) → Tells (not (fits t image)) (WrongImageLength t image)
tells_length t image = tells_not _ (tells_eq (length image) (image_length t))

module _ (t : Table) (image : List ℕ) where
  -- a direction's byte is out of range, or its waiting source has a message on it
  abbrev Unsound : ℕ → Bool → Type 0
  Unsound i b =
      (6 ≤ byte_at image (direction_at t i b))
      ⊎ (((state_of t image).waiting (source t i b) ≡ true) × ((state_of t image).message i b ≡ none → ⊥))

  tells_direction : (i : ℕ) (b : Bool) → Tells (not (sound_direction t image i b)) (Unsound i b)
  tells_direction i b =
      tells_lacks (ltb (byte_at image (direction_at t i b)) 6) (not (waits && carries ((state_of t image).message i b))) (tells_over _ 6)
      (double_not (waits && carries ((state_of t image).message i b)) (tells_and _ _ (tells_mark waits) (message_kind _)))
    where
      waits : Bool
      waits = (state_of t image).waiting (source t i b)

      double_not : (a : Bool) {P : Type 0} → Tells a P → Tells (not (not a)) P
      double_not true h = h
      double_not false h = h

  pub tells_image : Tells (not (fits t image && sound t image)) (BadImage t image)
  unfolding sound
  tells_image =
      tells_same
      (tells_lacks (fits t image) (sound t image) (tells_length t image)
      (tells_lacks (all t.nodes (λ x. ltb (byte_at image x) 8)) (all t.links (λ i. sound_direction t image i false && sound_direction t image i true))
      (tells_fails t.nodes (λ x. ltb (byte_at image x) 8) (λ x. 8 ≤ byte_at image x) (λ x. tells_over (byte_at image x) 8))
      (tells_fails t.links (λ i. sound_direction t image i false && sound_direction t image i true) (λ i. Unsound i false ⊎ Unsound i true)
      (λ i. tells_lacks (sound_direction t image i false) (sound_direction t image i true) (tells_direction i false) (tells_direction i true)))))
      there
      back
    where
      Either : Type 0
      Either =
          WrongImageLength t image
          ⊎ (((x : ℕ) × (x < t.nodes) × (8 ≤ byte_at image x)) ⊎ ((i : ℕ) × (i < t.links) × (Unsound i false ⊎ Unsound i true)))

      at : (i : ℕ) (b : Bool) → i < t.links → Unsound i b → BadImage t image
      at i b l (inl h) = direction_byte_over i b l h
      at i b l (inr h) = sends_waiting i b l h.0 h.1

      there : Either → BadImage t image
      there (inl h) = not_the_length h
      there (inr (inl h)) = node_byte_over h.0 h.1 h.2
      there (inr (inr (i, l, inl h))) = at i false l h
      there (inr (inr (i, l, inr h))) = at i true l h

      side : (i : ℕ) (b : Bool) → Unsound i b → Unsound i false ⊎ Unsound i true
      side i false h = inl h
      side i true h = inr h

      back : BadImage t image → Either
      back (not_the_length h) = inl h
      back (node_byte_over x l h) = inr (inl (x, l, h))
      back (direction_byte_over i b l h) = inr (inr (i, l, side i b (inl h)))
      back (sends_waiting i b l w m) = inr (inr (i, l, side i b (inr (w, m))))

-- no message, where it isn't so that there is one
is_none : (m : Message) → ((m ≡ none → ⊥) → ⊥) → m ≡ none
is_none none h = refl
is_none request h = absurd (h ((message_kind request).yields refl))
is_none acknowledgement h = absurd (h ((message_kind acknowledgement).yields refl))

-- an image that isn't bad shows sound marks
pub sound_marks : (t : Table) (image : List ℕ) → (BadImage t image → ⊥) → SoundMarks t (state_of t image)
sound_marks t image good i b l waits = is_none ((state_of t image).message i b) (λ some. good (sends_waiting i b l waits some))
