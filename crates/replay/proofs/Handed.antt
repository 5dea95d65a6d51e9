-- What a call answers where a check hands on its refusal, and what the view shows where all checks pass.
use Rattle.std.proofs.Common.{ℕ, List, length, Bor, Bool, true, ◌&&◌, ◌≡◌, sym, ap, ◌∙◌}
use borrow.Author.Tests.{eqb-true}
use Rattle.std.specs.Prelude.{Result, Ok, Err, IsErrAnd}
use Rattle.paper.specs.declared.Answer.{Answer}
use Rattle.paper.specs.Table.{table_of}
use Rattle.paper.specs.Image.{image_length, fits, sound, state_of}
use Rattle.paper.specs.Refusals as paper
use Rattle.paper.specs.Refusals.{table_refusal}
use Rattle.paper.specs.Actions.{listed}
use Rattle.paper.specs.Calls.{refused_with, reported, list_of_image}
use Rattle.cabling.specs.declared.Cabling.{Cabling}
use Rattle.cabling.specs.Cables.{cables}
use Rattle.cabling.proofs.Passed.{accepted}
use Rattle.std.proofs.lemmas.Bool.{and_parts}
use Rattle.marks.specs.Lent.{Lent}
use Rattle.image.specs.Taken.{SoundImage}
use Rattle.marks.specs.declared.View.{View}
use Rattle.marks.specs.Shown.{table, shown}
use Rattle.table.specs.declared.refusal.Refusal as table
use Rattle.table.specs.Told.{meant}
use Rattle.replay.specs.declared.refusal.Refusal.{Refusal}
use Rattle.replay.specs.declared.refusal.Refusal.TheVariants.{Table, Image}
use Rattle.automaton.specs.declared.Refused.{Refused}
use Rattle.automaton.specs.Tried.{refused_number}
use Rattle.replay.specs.Refused.{given_by, answer_of, number_of}
use Rattle.replay.proofs.Order.{twelve}

handed : (r : Result Answer Refusal) (e : Refusal) → IsErrAnd r (λ (w : Refusal). w ≡ e) → answer_of r ≡ refused_with (given_by e)
handed (Ok a) e h = elim h [ ]
handed (Err w) e h = ap (λ (v : Refusal). refused_with (given_by v)) h

pub by_table : (upload : List ℕ) (r : Result Answer Refusal) (e : table.Refusal) → IsErrAnd r (λ (w : Refusal). w ≡ Table e) → meant e ≡ table_refusal upload → answer_of r ≡ refused_with (table_refusal upload)
by_table upload r e h told = handed r (Table e) h ∙ ap refused_with told

pub by_image : (r : Result Answer Refusal) (e : Refusal) → IsErrAnd r (λ (w : Refusal). w ≡ e) → e ≡ Image → answer_of r ≡ refused_with twelve
by_image r e h is = handed r e h ∙ ap (λ (v : Refusal). refused_with (given_by v)) is

-- the number by which an action is refused, handed on
pub refused_on : {X : Type 0} (r : Result X Refused) (e : Refused) → IsErrAnd r (λ (w : Refused). w ≡ e) → refused_number e ≡ number_of r
refused_on (Ok a) e h = elim h [ ]
refused_on (Err w) e h = sym (ap refused_number h)

-- a cabling and an image of its length
pub lent_with : (k : Cabling) (image : List ℕ) → length image ≡ image_length (cables k) → Lent k.upload.bytes.now image
lent_with k image fits = record { table = accepted k.passes; fits = fits }

-- an image that fits has that length
pub fits_length : (k : Cabling) (image : List ℕ) → true ≡ fits (cables k) image → length image ≡ image_length (cables k)
fits_length k image e = eqb-true (length image) (image_length (cables k)) (sym e)

pub good_fits : (k : Cabling) (image : List ℕ) → true ≡ (fits (cables k) image && sound (cables k) image) → SoundImage (cables k) image
good_fits k image e =
    let both = and_parts (fits (cables k) image) (sound (cables k) image) (sym e) in
    record { fits = fits_length k image (sym both.0); is_sound = both.1 }

-- a cabling of an upload
module _ {u : Bor (List ℕ)} (k : Cabling) (of : k.upload.bytes ≡ u) where
  pub bytes_are : k.upload.bytes.now ≡ u.now
  bytes_are = ap (λ (b : Bor (List ℕ)). b.now) of

  pub fits_is : (b : Bool) (image : List ℕ) → b ≡ fits (cables k) image → fits (table_of u.now) image ≡ b
  fits_is b image e = sym (e ∙ ap (λ (l : List ℕ). fits (table_of l) image) bytes_are)

  pub good_is : (b : Bool) (image : List ℕ) → b ≡ (fits (cables k) image && sound (cables k) image) → (fits (table_of u.now) image && sound (table_of u.now) image) ≡ b
  good_is b image e = sym (e ∙ ap (λ (l : List ℕ). fits (table_of l) image && sound (table_of l) image) bytes_are)

  -- and a view of it and an image
  module _ {i : Bor (List ℕ)} (v : View) (seen : (v.cabling ≡ k) × (v.image ≡ i)) where
    viewed : v.cabling.upload.bytes.now ≡ u.now
    viewed = ap (λ (c : Cabling). c.upload.bytes.now) seen.0 ∙ bytes_are

    pub shows : (r : paper.Refusal) (steps : ℕ) → reported r steps (table v) (shown v) ≡ reported r steps (table_of u.now) (state_of (table_of u.now) i.now)
    shows r steps j =
        let image = ap (λ (b : Bor (List ℕ)). b.now) seen.1 in
        reported r steps (table_of (viewed j)) (state_of (table_of (viewed j)) (image j))

    pub lists : listed (table v) (shown v) ≡ list_of_image u.now i.now
    lists j =
        let image = ap (λ (b : Bor (List ℕ)). b.now) seen.1 in
        listed (table_of (viewed j)) (state_of (table_of (viewed j)) (image j))
