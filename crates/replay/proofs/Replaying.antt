-- A replay on a lent image, action by action.
use Prim.Native.Nat.{ℕ, suc, ◌+◌, ◌-◌, ◌<◌}
use mathlib.Core.Bool.{true}
use mathlib.Core.Path.{◌≡◌, sym, ap, ◌∙◌}
use mathlib.Core.List.{List}
use native.Mathlib.Omega.{arith}
use native.Mathlib.Numerals.{add-one}
use borrow.Author.Tests.{eq-eqb}
use lib.ListN.{length}
use Rattle.paper.specs.Upload.{byte_at, actions_of, action_at}
use Rattle.paper.specs.Table.{table_of}
use Rattle.paper.specs.State.{State, fresh}
use Rattle.paper.specs.Image.{state_of, image_of, image_length, sound}
use Rattle.paper.specs.Actions.{refused_by, state_after}
use Rattle.paper.specs.Calls.{Replayed, action_of, replay_from, replayed}
use Rattle.paper.proofs.Images.{image_of_state}
use Rattle.marks.specs.Lent.{Lent}
use Rattle.image.proofs.Kept.{fresh_holds}
use Rattle.replay.specs.Taken.{Taken}
use Rattle.replay.specs.Replaying.{came_to, ReplayedTo}
use Rattle.replay.specs.declared.Stopped.{Stopped}
use Rattle.automaton.specs.declared.Refused.{Refused}
use Rattle.automaton.specs.Tried.{refused_number}
use Rattle.std.specs.Prelude.{Result, Ok, Err}
use Rattle.replay.proofs.Acted.{next_taken, next_refused, refused_some}
use Rattle.replay.proofs.Folds.{replay_stops, replay_goes_on}

-- after i actions: the replay is what the actions from i on come to, from the state that the image shows
pub record Halfway (upload image : List ℕ) (i : ℕ) : Type 0 where
  pub lent : Lent upload image
  pub is_sound : sound (table_of upload) image ≡ true
  pub left : replayed upload ≡ replay_from upload (state_of (table_of upload) image) i (actions_of upload - i)

-- the image of a lent and sound image's state is that image
pub same_image : (upload image : List ℕ) → Lent upload image → sound (table_of upload) image ≡ true → image ≡ image_of (table_of upload) (state_of (table_of upload) image)
same_image upload image lent good =
    sym (image_of_state (table_of upload) image (eq-eqb (length image) (image_length (table_of upload)) lent.fits) good)

comes_to : (upload image : List ℕ) (r : Result ℕ Stopped) → Lent upload image → sound (table_of upload) image ≡ true → replayed upload ≡ came_to r upload image → ReplayedTo upload r image
comes_to upload image r lent good e =
    let state : state_of (table_of upload) image ≡ (replayed upload).state = sym (ap (λ (w : Replayed). w.state) e) in
    record {
      is = e;
      left = same_image upload image lent good ∙ ap (image_of (table_of upload)) state;
      holds = record { lent = lent; is_sound = good; shows = state };
    }

pub begins : (upload image l : List ℕ) → Lent upload image → l ≡ image_of (table_of upload) (fresh (table_of upload)) → Halfway upload l 0
unfolding replayed
begins upload image l lent e =
    let h = fresh_holds upload image l lent e in
    let all : actions_of upload - 0 ≡ actions_of upload = omega arith in
    record {
      lent = h.lent;
      is_sound = h.is_sound;
      left = (λ j. replay_from upload (sym h.shows j) 0 (sym all j));
    }

pub ends : (upload image : List ℕ) (a : ℕ) → a ≡ actions_of upload → Halfway upload image a → ReplayedTo upload (Ok a) image
unfolding replay_from
ends upload image a e h =
    let none : actions_of upload - a ≡ 0 = omega arith in
    comes_to upload image (Ok a) h.lent h.is_sound (h.left ∙ ap (replay_from upload (state_of (table_of upload) image) a) none)

module _ (upload image after : List ℕ) (i number : ℕ) (h : Halfway upload image i) (below : i < actions_of upload) (w : Taken upload image (byte_at upload (action_at upload i)) (byte_at upload (action_at upload i + 1)) (byte_at upload (action_at upload i + 2)) number after) where
  one_more : replayed upload ≡ replay_from upload (state_of (table_of upload) image) i (suc (actions_of upload - suc i))
  one_more =
      let more : actions_of upload - i ≡ suc (actions_of upload - suc i) = omega arith in
      h.left ∙ ap (replay_from upload (state_of (table_of upload) image) i) more

  pub goes_on : number ≡ 0 → Halfway upload after (i + 1)
  goes_on e =
      let s = state_of (table_of upload) image in
      let can = sym w.refused ∙ e in
      let next : state_after (table_of upload) s (action_of upload i) ≡ state_of (table_of upload) after = sym (w.holds.shows ∙ next_taken upload s _ _ _ can) in
      record {
        lent = w.holds.lent;
        is_sound = w.holds.is_sound;
        left = rw (add-one i) (one_more ∙ replay_goes_on upload s i (actions_of upload - suc i) can ∙ ap (λ (z : State). replay_from upload z (suc i) (actions_of upload - suc i)) next);
      }

module _ (upload image after : List ℕ) (i : ℕ) (r : Refused) (h : Halfway upload image i) (below : i < actions_of upload) (w : Taken upload image (byte_at upload (action_at upload i)) (byte_at upload (action_at upload i + 1)) (byte_at upload (action_at upload i + 2)) (refused_number r) after) where
  pub stops : ReplayedTo upload (Err (record { refused = r; place = i })) after
  stops =
      let s = state_of (table_of upload) image in
      let cannot : refused_by (table_of upload) s (action_of upload i) ≡ 0 → ⊥ = λ q. refused_some r (w.refused ∙ q) in
      let same : s ≡ state_of (table_of upload) after = sym (w.holds.shows ∙ next_refused upload s _ _ _ cannot) in
      comes_to upload after (Err (record { refused = r; place = i })) w.holds.lent w.holds.is_sound
      (one_more upload image after i (refused_number r) h below w
      ∙ replay_stops upload s i (actions_of upload - suc i) cannot
      ∙ (λ j. record { refusal = record { number = sym w.refused j; place = i }; steps = i; state = same j }))
