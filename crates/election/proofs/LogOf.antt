-- The log of a run: the upload with the same table and three bytes for each step.
use Prim.Native.Nat.{ℕ, zero, suc, ◌+◌, ◌*◌, ◌≤◌, ◌<◌}
use mathlib.Core.Bool.{Bool, true, false, not}
use mathlib.Core.Path.{◌≡◌, refl, sym, ap, subst, ◌∙◌}
use mathlib.Core.List.{List, [], ◌∷◌, ◌++◌}
use native.Mathlib.Omega.{arith}
use lib.ListN.{length, take, drop, length-append, length-drop, get_or-append}
use lib.Seq.{length-take-le, get_or-append-add, get_or-take, get_or-drop}
use Rattle.counting.specs.Count.{bit}
use Rattle.counting.proofs.Bits.{bit_most}
use Rattle.paper.specs.Upload.{byte_at, nodes_of, links_of, actions_of, link_at, action_at, exact_length}
use Rattle.paper.specs.Table.{Table, table_of, Joined, here, along}
use Rattle.paper.specs.State.{State, fresh}
use Rattle.paper.specs.Steps.{Step, children_known, add_child, acknowledge, resolve, become_root, possible, effect, taken, Run}
use Rattle.paper.specs.Report.{root_of, waiting_count, outcome_of}
use Rattle.paper.specs.Actions.{reading}
use Rattle.paper.specs.Refusals.{Refusal, accepted, refusal, table_refusal}
use Rattle.paper.specs.Calls.{Replayed, reported, answered, trying, replay_from, replayed, replay_behind, replay_answer}
use Rattle.paper.specs.Meanings.{kind_of, first_of, second_of}
use Rattle.counting.proofs.Booleans.{and_left, and_right}
use Rattle.paper.proofs.Changes.{InTable, possible_in_table}
use Rattle.paper.proofs.Readings.{read_step}
use Rattle.cabling.specs.Accepted.{Accepted}
use Rattle.table.specs.ExactlyWhen.{LinkPasses}
use Rattle.table.proofs.ExactlyWhen.{exactly_when, passes_all}
use Rattle.table.proofs.Laws.{accepted_laws}
use Rattle.election.specs.Demand.{reached_by, NamesFrom, Bytes, IsLogOf}
use Rattle.election.proofs.Election.{few_steps}
use Rattle.election.proofs.Alike.{SameEnds, taken_alike, outcome_alike}
use Rattle.election.proofs.Replays.{takes_all}

-- three bytes for each step
abbrev bytes_of : Table → List Step → List ℕ
bytes_of t [] = []
bytes_of t (x ∷ xs) = kind_of x ∷ first_of t x ∷ second_of t x ∷ bytes_of t xs

length_bytes : (t : Table) (xs : List Step) → length (bytes_of t xs) ≡ 3 * length xs
length_bytes t [] = refl
length_bytes t (x ∷ xs) = let h = length_bytes t xs in omega arith

-- the bytes of the links of an upload
abbrev link_bytes : List ℕ → List ℕ
link_bytes u = take (2 * links_of u) (drop 4 u)

-- the upload with the same n, m and links, and with these steps as its actions
abbrev log_of : List ℕ → List Step → List ℕ
log_of u xs = nodes_of u ∷ links_of u ∷ 0 ∷ length xs ∷ (link_bytes u ++ bytes_of (table_of u) xs)

-- bytes below 256 stay so
bytes_append : (l r : List ℕ) → Bytes l → Bytes r → Bytes (l ++ r)
bytes_append [] r h g = g
bytes_append (b ∷ l) r h g = (h.0, bytes_append l r h.1 g)

bytes_take : (k : ℕ) (l : List ℕ) → Bytes l → Bytes (take k l)
bytes_take zero l h = tt
bytes_take (suc k) [] h = tt
bytes_take (suc k) (b ∷ l) h = (h.0, bytes_take k l h.1)

bytes_drop : (k : ℕ) (l : List ℕ) → Bytes l → Bytes (drop k l)
bytes_drop zero l h = h
bytes_drop (suc k) [] h = tt
bytes_drop (suc k) (b ∷ l) h = bytes_drop k l h.1

module _ (u : List ℕ) (good : (table_refusal u).number ≡ 0) (xs : List Step) (run : Run (table_of u) xs) where
  laws : Accepted u
  laws = accepted_laws u good

  few : length xs ≤ 189
  few =
      let steps = few_steps (table_of u) laws.some_node laws.ends laws.no_self laws.piece xs run in
      let fit = laws.nodes_fit in omega arith

  end_byte : (i : ℕ) (b : Bool) → i < links_of u → (table_of u).end i b < 256
  end_byte i b l =
      let below = laws.ends i b l in
      let fit = laws.nodes_fit in omega arith

  -- the three bytes of a step of the table
  step_bytes : (x : Step) → InTable (table_of u) x → (kind_of x < 256) × (first_of (table_of u) x < 256) × (second_of (table_of u) x < 256)
  step_bytes (children_known x) l = let fit = laws.nodes_fit in (omega arith, omega arith, omega arith)
  step_bytes (add_child i b) l = (omega arith, end_byte i b l, end_byte i (not b) l)
  step_bytes (acknowledge i b) l = (omega arith, end_byte i b l, end_byte i (not b) l)
  step_bytes (resolve i b) l = (omega arith, end_byte i b l, end_byte i (not b) l)
  step_bytes (become_root x) l = let fit = laws.nodes_fit in (omega arith, omega arith, omega arith)

  steps_bytes : (s : State) (ys : List Step) → taken (table_of u) s ys ≡ true → Bytes (bytes_of (table_of u) ys)
  unfolding taken
  steps_bytes s [] h = tt
  steps_bytes s (y ∷ ys) h =
      let (kind, one, two) = step_bytes y (possible_in_table (table_of u) s y (and_left (possible (table_of u) s y) _ h)) in
      (kind, (one, (two, steps_bytes (effect (table_of u) s y) ys (and_right (possible (table_of u) s y) _ h))))

  length_links : length (link_bytes u) ≡ 2 * links_of u
  length_links =
      let all = laws.exact in
      let rest = length-drop 4 u in
      length-take-le (2 * links_of u) (drop 4 u) (omega arith)

  -- where the bytes behind the header stand
  byte_behind : (k : ℕ) → byte_at (log_of u xs) (4 + k) ≡ byte_at (link_bytes u ++ bytes_of (table_of u) xs) k
  byte_behind k = get_or-append-add (nodes_of u ∷ links_of u ∷ 0 ∷ length xs ∷ []) (link_bytes u ++ bytes_of (table_of u) xs) k 0

  same_ends : SameEnds (table_of u) (table_of (log_of u xs)).end
  same_ends i b l =
      let one = bit_most b in
      let k = 2 * i + bit b in
      let many = length_links in
      let at : link_at i + bit b ≡ 4 + k = omega arith in
      sym (ap (byte_at (log_of u xs)) at ∙ (byte_behind k ∙ (get_or-append (link_bytes u) (bytes_of (table_of u) xs) 0 k (omega arith) ∙ (get_or-take (2 * links_of u) (drop 4 u) k 0 (omega arith) ∙ (get_or-drop 4 u k 0 ∙ ap (byte_at u) (sym at))))))

  -- the bytes of the actions
  byte_action : (k : ℕ) → byte_at (log_of u xs) (4 + 2 * links_of u + k) ≡ byte_at (bytes_of (table_of u) xs) k
  byte_action k =
      let many = length_links in
      let at : 4 + 2 * links_of u + k ≡ 4 + (length (link_bytes u) + k) = omega arith in
      ap (byte_at (log_of u xs)) at ∙ (byte_behind (length (link_bytes u) + k) ∙ get_or-append-add (link_bytes u) (bytes_of (table_of u) xs) k 0)

  -- the log's table passes every check that the table passes
  joined_alike : (x y : ℕ) → Joined (table_of u) x y → Joined (table_of (log_of u xs)) x y
  joined_alike x y here = here
  joined_alike x y (along path i b l from to) =
      along (joined_alike x _ path) i b l (sym (same_ends i b l) ∙ from) (sym (same_ends i (not b) l) ∙ to)

  link_alike : (i : ℕ) → i < links_of u → LinkPasses (table_of u) i → LinkPasses (table_of (log_of u xs)) i
  link_alike i l pass =
      record {
        names = λ (b, h). pass.names (b, subst (λ k. nodes_of u ≤ k) (sym (same_ends i b l)) h);
        apart = λ e. pass.apart (same_ends i false l ∙ (e ∙ sym (same_ends i true l)));
        new =
            λ (j, b, h, e, f).
            let below : j < links_of u = omega arith in
            pass.new (j, b, h, same_ends j b below ∙ (e ∙ sym (same_ends i false l)), same_ends j (not b) below ∙ (f ∙ sym (same_ends i true l)));
      }

  actions : actions_of (log_of u xs) ≡ length xs
  actions = omega arith

  exact : length (log_of u xs) ≡ exact_length (log_of u xs)
  exact =
      let all = length-append (link_bytes u) (bytes_of (table_of u) xs) in
      let links = length_links in
      let steps = length_bytes (table_of u) xs in
      let a = actions in omega arith

  log_accepted : table_refusal (log_of u xs) ≡ accepted
  log_accepted =
      let w = passes_all u good in
      let few = few in
      let a = actions in
      (exactly_when (log_of u xs) 0).accepted.1 (
        refl,
        record {
          header = record { range = record { some_node = laws.some_node; nodes_fit = laws.nodes_fit; links_fit = laws.links_fit; actions_fit = omega arith }; exact = exact };
          links = λ i l. link_alike i l (w.0.links i l);
        },
        λ x l. joined_alike 0 x (w.1 x l),
      )

  log_laws : Accepted (log_of u xs)
  log_laws = accepted_laws (log_of u xs) (ap (λ (r : Refusal). r.number) log_accepted)

  -- a step of the table has the same bytes in the log's table
  first_alike : (x : Step) → InTable (table_of (log_of u xs)) x → first_of (table_of u) x ≡ first_of (table_of (log_of u xs)) x
  first_alike (children_known x) l = refl
  first_alike (add_child i b) l = same_ends i b l
  first_alike (acknowledge i b) l = same_ends i b l
  first_alike (resolve i b) l = same_ends i b l
  first_alike (become_root x) l = refl

  second_alike : (x : Step) → InTable (table_of (log_of u xs)) x → second_of (table_of u) x ≡ second_of (table_of (log_of u xs)) x
  second_alike (children_known x) l = refl
  second_alike (add_child i b) l = same_ends i (not b) l
  second_alike (acknowledge i b) l = same_ends i (not b) l
  second_alike (resolve i b) l = same_ends i (not b) l
  second_alike (become_root x) l = refl

  -- from action i on stand the bytes of these steps
  Stand : ℕ → List Step → Type 0
  Stand i ys = (k : ℕ) → byte_at (log_of u xs) (action_at (log_of u xs) i + k) ≡ byte_at (bytes_of (table_of u) ys) k

  names_steps : (s : State) (i : ℕ) (ys : List Step) → taken (table_of (log_of u xs)) s ys ≡ true → Stand i ys → NamesFrom (log_of u xs) i ys
  unfolding taken Stand
  names_steps s i [] h at = tt
  names_steps s i (y ∷ ys) h at = (
    (λ j. reading (table_of (log_of u xs)) (kind j) (one j) (two j)) ∙ read_step (table_of (log_of u xs)) log_laws.ends log_laws.no_self log_laws.no_repeat y inside,
    names_steps (effect (table_of (log_of u xs)) s y) (suc i) ys (and_right (possible (table_of (log_of u xs)) s y) _ h) (λ k. let place : action_at (log_of u xs) (suc i) + k ≡ action_at (log_of u xs) i + suc (suc (suc k)) = omega arith in ap (byte_at (log_of u xs)) place ∙ at (suc (suc (suc k)))),
  )
    where
      inside : InTable (table_of (log_of u xs)) y
      inside = possible_in_table (table_of (log_of u xs)) s y (and_left (possible (table_of (log_of u xs)) s y) _ h)

      kind : byte_at (log_of u xs) (action_at (log_of u xs) i) ≡ kind_of y
      kind = let place : action_at (log_of u xs) i ≡ action_at (log_of u xs) i + 0 = omega arith in ap (byte_at (log_of u xs)) place ∙ at 0

      one : byte_at (log_of u xs) (action_at (log_of u xs) i + 1) ≡ first_of (table_of (log_of u xs)) y
      one = at 1 ∙ first_alike y inside

      two : byte_at (log_of u xs) (action_at (log_of u xs) i + 2) ≡ second_of (table_of (log_of u xs)) y
      two = at 2 ∙ second_alike y inside

  alike : (taken (table_of (log_of u xs)) (fresh (table_of u)) xs ≡ true) × (reached_by (table_of u) xs ≡ reached_by (table_of (log_of u xs)) xs)
  alike = taken_alike (table_of u) (table_of (log_of u xs)).end same_ends (fresh (table_of u)) xs run

  log_named : NamesFrom (log_of u xs) 0 xs
  unfolding Stand
  log_named =
      names_steps (fresh (table_of u)) 0 xs alike.0
      (λ k.
      let place : action_at (log_of u xs) 0 + k ≡ 4 + 2 * links_of u + k = omega arith in
      ap (byte_at (log_of u xs)) place ∙ byte_action k)

  log_replayed : replayed (log_of u xs) ≡ record { refusal = accepted; steps = length xs; state = reached_by (table_of u) xs }
  unfolding replayed
  log_replayed =
      ap (replay_from (log_of u xs) (fresh (table_of u)) 0) actions
      ∙ takes_all (log_of u xs) (fresh (table_of u)) 0 xs log_named alike.0
      ∙ (λ j. record { refusal = accepted; steps = count j; state = sym alike.1 j })
    where
      count : 0 + length xs ≡ length xs
      count = omega arith

  log_bytes : Bytes u → Bytes (log_of u xs)
  log_bytes h =
      let nodes = laws.nodes_fit in
      let links = laws.links_fit in
      let steps = few in
      (omega arith, (omega arith, (omega arith, (omega arith, bytes_append (link_bytes u) (bytes_of (table_of u) xs) (bytes_take (2 * links_of u) (drop 4 u) (bytes_drop 4 u h)) (steps_bytes (fresh (table_of u)) xs run)))))

  log_answer : replay_answer (log_of u xs) ≡ reported accepted (length xs) (table_of u) (reached_by (table_of u) xs)
  unfolding replay_behind
  log_answer =
      ap (λ (r : Replayed). answered (refusal (log_of u xs) (trying accepted r.refusal accepted)) r.steps (table_of (log_of u xs)) r.state) log_replayed
      ∙ ap (λ r. answered r (length xs) (table_of (log_of u xs)) (reached_by (table_of u) xs)) log_accepted
      ∙ (λ j. record { refusal = 0; place = 0; steps = length xs; outcome = outcome j; root = root_of (table_of u) (reached_by (table_of u) xs); waiting = waiting_count (table_of u) (reached_by (table_of u) xs) })
    where
      outcome : outcome_of (table_of (log_of u xs)) (reached_by (table_of u) xs) ≡ outcome_of (table_of u) (reached_by (table_of u) xs)
      outcome = outcome_alike (table_of u) (table_of (log_of u xs)).end same_ends (reached_by (table_of u) xs)

  pub is_log : IsLogOf u xs (log_of u xs)
  is_log =
      record {
        bytes = log_bytes;
        nodes = refl;
        links = refl;
        ends = λ i b l. sym (same_ends i b l);
        actions = actions;
        named = log_named;
        state = ap (λ (r : Replayed). r.state) log_replayed;
        answer = log_answer;
      }
