-- Fresh, report, list, step and run answer the same, and leave the same bytes, whatever the action bytes are.
use Prim.Native.Nat.{ℕ, zero, suc, ◌+◌, ◌*◌, ◌/◌, ◌≤◌, ◌<◌}
use mathlib.Core.Bool.{Bool, true, false, not, cond, ◌&&◌}
use mathlib.Core.Path.{◌≡◌, refl, sym, ap, ◌∙◌}
use mathlib.Core.List.{List, [], ◌∷◌}
use native.Mathlib.Omega.{arith}
use native.Mathlib.Decide.{ℕ_discrete, dec_lt}
use lib.ListN.{length}
use lib.Dec.{eqb, ltb}
use borrow.Author.Tests.{le-ltb, ne_eqb}
use Rattle.counting.specs.Count.{bit}
use Rattle.paper.specs.Upload.{byte_at, nodes_of, links_of, actions_of, link_at}
use Rattle.paper.specs.Table.{Table, table_of, one_piece}
use Rattle.paper.specs.State.{State, fresh}
use Rattle.paper.specs.Image.{image_of, state_of, fits}
use Rattle.paper.specs.Report.{outcome_of, root_of, waiting_count}
use Rattle.paper.specs.Actions.{reading, refused_by, state_after, listed}
use Rattle.paper.specs.Runner.{Ran, run_from, longest, runner}
use Rattle.paper.specs.Refusals.{Refusal, accepted, given, first, in_range, links_refusal, Tried, refusal, table_refusal, image_refusal, length_refusal, room_refusal}
use Rattle.paper.specs.Calls.{has_state, refused_with, answered, left, over, trying, fresh_refusal, fresh_answer, fresh_image, report_answer, list_answer, list_buffer, action_refusal, step_refusal, step_answer, step_image, run_answer, run_image}
use Rattle.table.proofs.Laws.{accepted_laws}
use Rattle.replay.specs.Promises.{SameTable, ActionsUnread}
use Rattle.replay.proofs.Folds.{run_stops, run_goes_on}
use Rattle.replay.proofs.Advancing.{head_taken}
use Rattle.replay.proofs.Running.{run_table, run_table_left}
use Rattle.replay.proofs.Inside.{inside, number_inside, after_inside, listed_inside, outcome_inside, sound_inside, links_inside, piece_inside}

-- the runner takes the same steps inside the table
module _ (t : Table) (few : t.nodes ≤ 255) where
  run_inside : (k : ℕ) (s : State) (taken : ℕ) → run_from (inside t) k s taken ≡ run_from t k s taken
  unfolding run_from
  run_inside zero s taken = refl
  run_inside (suc k) s taken = go (listed t s) refl (run_inside k)
    where
      go : (l : List ℕ) → listed t s ≡ l → ((s : State) (taken : ℕ) → run_from (inside t) k s taken ≡ run_from t k s taken) → run_from (inside t) (suc k) s taken ≡ run_from t (suc k) s taken
      go [] e rest =
          run_stops (inside t) k s taken (listed_inside t s ∙ e) ∙ sym (run_stops t k s taken e)
      go (kind ∷ more) e rest =
          let x = byte_at more 0 in
          let y = byte_at more 1 in
          run_goes_on (inside t) k s taken kind more (listed_inside t s ∙ e)
          ∙ ap (λ (z : State). run_from (inside t) k z (suc taken)) (after_inside t s kind x y (head_taken t s few kind more e))
          ∙ rest (state_after t s (reading t kind x y)) (suc taken)
          ∙ sym (run_goes_on t k s taken kind more e)

  pub runner_inside : runner (inside t) ≡ runner t
  unfolding runner
  runner_inside = run_inside (longest t) (fresh t) 0

module _ (one other : List ℕ) (h : SameTable one other) where
  same_nodes : nodes_of one ≡ nodes_of other
  same_nodes = h.bytes 0 (omega arith)

  same_links : links_of one ≡ links_of other
  same_links = h.bytes 1 (omega arith)

  same_actions : actions_of one ≡ actions_of other
  same_actions = λ j. 256 * h.bytes 2 (omega arith) j + h.bytes 3 (omega arith) j

  bit_small : (b : Bool) → bit b < 2
  bit_small true = omega arith
  bit_small false = omega arith

  same_ends : (i : ℕ) (b : Bool) → (inside (table_of one)).end i b ≡ (inside (table_of other)).end i b
  same_ends i b = go (dec_lt i (links_of one))
    where
      go : Dec (i < links_of one) → (inside (table_of one)).end i b ≡ (inside (table_of other)).end i b
      go (yes l) =
          let small = bit_small b in
          λ j. cond (ltb i (same_links j)) (h.bytes (link_at i + bit b) (omega arith) j) 0
      go (no l) =
          let m = same_links in
          rw (le-ltb i (links_of one) (omega arith), le-ltb i (links_of other) (omega arith))

  same_inside : inside (table_of one) ≡ inside (table_of other)
  same_inside = λ j. record { nodes = same_nodes j; links = same_links j; end = λ i b. same_ends i b j }

  -- what is the same inside a table is the same of both
  carried : {A : Type 0} (f : Table → A) → ((t : Table) → f (inside t) ≡ f t) → f (table_of one) ≡ f (table_of other)
  carried f e = sym (e (table_of one)) ∙ ap f same_inside ∙ e (table_of other)

  same_refusal : (p q : Tried) → p ≡ q → refusal one p ≡ refusal other q
  unfolding refusal
  same_refusal p q e =
      let links = carried (λ t. links_refusal t 0 t.links) (λ t. links_inside t t.links 0 (omega arith)) in
      let piece = carried one_piece piece_inside in
      λ j.
      first
      ((e j).header
      ∷ (e j).span
      ∷ given (ltb (h.size j) 4) 3 0
      ∷ given (not (in_range (same_nodes j) (same_links j) (same_actions j))) 4 0
      ∷ given (not (eqb (h.size j) (4 + 2 * same_links j + 3 * same_actions j))) 3 0
      ∷ links j
      ∷ given (not (piece j)) 8 0
      ∷ (e j).image
      ∷ (e j).action
      ∷ (e j).room
      ∷ [])

  same_answer : (r q : Refusal) (k l : ℕ) (s z : State) → r ≡ q → k ≡ l → s ≡ z → answered r k (table_of one) s ≡ answered q l (table_of other) z
  same_answer r q k l s z e f g =
      let outcome : outcome_of (table_of one) s ≡ outcome_of (table_of other) z = carried (λ t. outcome_of t s) (λ t. outcome_inside t s) ∙ ap (outcome_of (table_of other)) g in
      let root : root_of (table_of one) s ≡ root_of (table_of other) z = carried (λ t. root_of t s) (λ t. refl) ∙ ap (root_of (table_of other)) g in
      let waiting : waiting_count (table_of one) s ≡ waiting_count (table_of other) z = carried (λ t. waiting_count t s) (λ t. refl) ∙ ap (waiting_count (table_of other)) g in
      λ j.
      cond (has_state (e j)) (record { refusal = (e j).number; place = (e j).place; steps = f j; outcome = outcome j; root = root j; waiting = waiting j }) (refused_with (e j))

  same_state : (image : List ℕ) → state_of (table_of one) image ≡ state_of (table_of other) image
  same_state image = carried (λ t. state_of t image) (λ t. refl)

  same_bytes : (s : State) → image_of (table_of one) s ≡ image_of (table_of other) s
  unfolding image_of
  same_bytes s = carried (λ t. image_of t s) (λ t. refl)

  same_length : (image : List ℕ) → length_refusal (table_of one) image ≡ length_refusal (table_of other) image
  same_length image = carried (λ t. length_refusal t image) (λ t. refl)

  same_sound : (image : List ℕ) → image_refusal (table_of one) image ≡ image_refusal (table_of other) image
  same_sound image =
      carried (λ t. image_refusal t image) (λ t. ap (λ (b : Bool). given (not (fits t image && b)) 12 0) (sound_inside t image))

  same_start : fresh (table_of one) ≡ fresh (table_of other)
  same_start = carried fresh (λ t. refl)

  fresh_refusals : (image : List ℕ) → fresh_refusal one image ≡ fresh_refusal other image
  fresh_refusals image = same_refusal _ _ (λ j. trying (same_length image j) accepted accepted)

  same_listed : (image : List ℕ) → listed (table_of one) (state_of (table_of one) image) ≡ listed (table_of other) (state_of (table_of other) image)
  same_listed image = carried (λ t. listed t (state_of t image)) (λ t. listed_inside t (state_of t image))

  list_refusals : (image buffer : List ℕ) → refusal one (trying (image_refusal (table_of one) image) accepted (room_refusal (length (listed (table_of one) (state_of (table_of one) image))) buffer)) ≡ refusal other (trying (image_refusal (table_of other) image) accepted (room_refusal (length (listed (table_of other) (state_of (table_of other) image))) buffer))
  list_refusals image buffer =
      same_refusal _ _ (λ j. trying (same_sound image j) accepted (room_refusal (length (same_listed image j)) buffer))

  module _ (image : List ℕ) (kind x y : ℕ) where
    same_number : refused_by (table_of one) (state_of (table_of one) image) (reading (table_of one) kind x y) ≡ refused_by (table_of other) (state_of (table_of other) image) (reading (table_of other) kind x y)
    same_number =
        carried (λ t. refused_by t (state_of t image) (reading t kind x y)) (λ t. number_inside t (state_of t image) kind x y)

    step_refusals : step_refusal one image kind x y ≡ step_refusal other image kind x y
    step_refusals = same_refusal _ _ (λ j. trying (same_sound image j) (action_refusal (same_number j) 0) accepted)

    -- the state after a step, taken or not
    abbrev stepped : Table → State
    stepped t = cond (eqb (refused_by t (state_of t image) (reading t kind x y)) 0) (state_after t (state_of t image) (reading t kind x y)) (state_of t image)

    stepped_inside : (t : Table) → stepped (inside t) ≡ stepped t
    stepped_inside t =
        ap (λ (k : ℕ). cond (eqb k 0) (state_after (inside t) (state_of t image) (reading (inside t) kind x y)) (state_of t image)) (number_inside t (state_of t image) kind x y)
        ∙ go (ℕ_discrete (refused_by t (state_of t image) (reading t kind x y)) 0)
      where
        go : Dec (refused_by t (state_of t image) (reading t kind x y) ≡ 0) → cond (eqb (refused_by t (state_of t image) (reading t kind x y)) 0) (state_after (inside t) (state_of t image) (reading (inside t) kind x y)) (state_of t image) ≡ stepped t
        go (yes e) =
            ap (λ (z : State). cond (eqb (refused_by t (state_of t image) (reading t kind x y)) 0) z (state_of t image)) (after_inside t (state_of t image) kind x y e)
        go (no e) = rw (ne_eqb (refused_by t (state_of t image) (reading t kind x y)) 0 e)

    same_step : stepped (table_of one) ≡ stepped (table_of other)
    same_step = carried stepped stepped_inside

  -- the runner, of an accepted table
  same_runner : (table_refusal one).number ≡ 0 → runner (table_of one) ≡ runner (table_of other)
  same_runner e =
      let few = (accepted_laws one e).nodes_fit in
      let n = same_nodes in
      sym (runner_inside (table_of one) (omega arith)) ∙ ap runner same_inside ∙ runner_inside (table_of other) (omega arith)

  same_run : (image : List ℕ) → run_answer one image ≡ run_answer other image
  unfolding run_answer
  same_run image = go (ℕ_discrete (table_refusal one).number 0)
    where
      table : table_refusal one ≡ table_refusal other
      table = same_refusal _ _ refl

      go : Dec ((table_refusal one).number ≡ 0) → run_answer one image ≡ run_answer other image
      go (yes e) =
          let ran = same_runner e in
          same_answer _ _ _ _ _ _ (fresh_refusals image) (ap (λ (w : Ran). w.steps) ran) (ap (λ (w : Ran). w.state) ran)
      go (no e) =
          run_table one image e
          ∙ ap refused_with table
          ∙ sym (run_table other image (λ q. e (ap (λ (r : Refusal). r.number) table ∙ q)))

  same_run_image : (image : List ℕ) → run_image one image ≡ run_image other image
  unfolding run_image
  same_run_image image = go (ℕ_discrete (table_refusal one).number 0)
    where
      table : table_refusal one ≡ table_refusal other
      table = same_refusal _ _ refl

      go : Dec ((table_refusal one).number ≡ 0) → run_image one image ≡ run_image other image
      go (yes e) =
          let ran = ap (λ (w : Ran). w.state) (same_runner e) in
          let bytes = same_bytes (runner (table_of one)).state ∙ ap (image_of (table_of other)) ran in
          λ j. left (fresh_refusals image j) (bytes j) image
      go (no e) =
          run_table_left one image e ∙ sym (run_table_left other image (λ q. e (ap (λ (r : Refusal). r.number) table ∙ q)))

pub actions_unread : (one other : List ℕ) → SameTable one other → ActionsUnread one other
unfolding fresh_answer fresh_image report_answer list_answer list_buffer step_answer step_image
actions_unread one other h =
    record {
      fresh = λ image. same_answer one other h _ _ 0 0 _ _ (fresh_refusals one other h image) refl (same_start one other h);
      image_of_fresh = λ image.
          let bytes = same_bytes one other h (fresh (table_of one)) ∙ ap (image_of (table_of other)) (same_start one other h) in
          λ j. left (fresh_refusals one other h image j) (bytes j) image;
      report = λ image.
          same_answer one other h _ _ 0 0 _ _ (same_refusal one other h _ _ (λ j. trying (same_sound one other h image j) accepted accepted)) refl (same_state one other h image);
      list = λ image buffer.
          same_answer one other h _ _ _ _ _ _ (list_refusals one other h image buffer) (λ j. length (same_listed one other h image j) / 3) (same_state one other h image);
      buffer_of_list = λ image buffer j.
          left (list_refusals one other h image buffer j) (over (same_listed one other h image j) buffer) buffer;
      step = λ image kind x y.
          same_answer one other h _ _ _ _ _ _ (step_refusals one other h image kind x y) (λ j. cond (eqb (step_refusals one other h image kind x y j).number 0) 1 0) (same_step one other h image kind x y);
      image_of_step = λ image kind x y.
          let bytes = same_bytes one other h (stepped one other h image kind x y (table_of one)) ∙ ap (image_of (table_of other)) (same_step one other h image kind x y) in
          λ j. left (step_refusals one other h image kind x y j) (bytes j) image;
      run = same_run one other h;
      image_of_run = same_run_image one other h;
    }
