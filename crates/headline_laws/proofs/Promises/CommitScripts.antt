-- What the scripts of commits and closes ask.
use Rattle.std.proofs.Common.{◌≡◌, ℕ, Bool, true, false, cond, List, [], ◌∷◌, Option, refl}
use Rattle.role_steps.proofs.of_plain_facts.Tests.{false_true}
use Rattle.locus_ids.specs.declared.config.Mount.{Mount}
use Rattle.locus_ids.specs.declared.ids.EpochId.{EpochId}
use Rattle.locus_ids.specs.declared.ids.FileId.{FileId}
use Rattle.locus_ids.specs.declared.ids.Mode.{Mode}
use Rattle.locus_ids.specs.declared.ids.Mode.TheVariants as mode
use Rattle.locus_ids.specs.declared.ids.Serial.{Serial}
use Rattle.locus_ids.specs.declared.refusal.Refusal.TheVariants as refusal
use Rattle.trace_book.specs.declared.call.Call.{Call}
use Rattle.trace_book.specs.declared.call.Call.TheVariants as call
use Rattle.trace_book.specs.declared.descriptor.Beginning.TheVariants as begins
use Rattle.trace_book.specs.declared.operation.Op.TheVariants as op
use Rattle.trace_book.specs.declared.reply.Reply.TheVariants as reply
use Rattle.call_rules.specs.declared.answer.Answer.{Answer}
use Rattle.call_rules.specs.declared.answer.Answer.TheVariants as answer
use Rattle.call_rules.specs.declared.want.Want.{Want}
use Rattle.call_rules.specs.declared.want.Want.TheVariants as want
use Rattle.call_rules.specs.Opening.{close_wants, op_wants}
use Rattle.call_rules.specs.Scripts.{where_packed, wants}
use Rattle.lawful_trace.specs.TreeRows.{is_open_of}
use Rattle.headline_laws.specs.Promises.Acknowledging.{acknowledges}

-- what a commit or a close asks of the instance of its descriptor
abbrev pub AsksOf : Serial → Want → Type 0
AsksOf i (want.Do j o) = (j ≡ i) × (o ≡ op.Commit)
AsksOf i (want.Close j) = j ≡ i
AsksOf i (want.Give r) = Unit {0}
AsksOf i want.Never = Unit {0}
AsksOf i _ = ⊥

op_of : (i : Serial) (xs : List Answer) → AsksOf i (op_wants i op.Commit xs)
op_of i [] = (refl, refl)
op_of i (answer.Did result ∷ []) = tt
op_of i (answer.Refused why ∷ []) = tt
op_of i (_ ∷ rest) = tt

close_of : (i : Serial) (xs : List Answer) → AsksOf i (close_wants i xs)
close_of i [] = refl
close_of i (answer.Ended stamp ∷ []) = tt
close_of i (answer.Refused why ∷ []) = tt
close_of i (_ ∷ rest) = tt

-- a group without packs gives a refusal in place of what is asked
or_none : (b : Bool) (i : Serial) (w : Want) → AsksOf i w → AsksOf i (cond b w (want.Give (reply.No refusal.NoStorage)))
or_none true i w h = h
or_none false i w h = tt

where_of : (packed : ℕ → Bool) (i : Serial) (w : Want) → AsksOf i w → AsksOf i (where_packed packed w)
where_of packed i (want.Look file asked) h = or_none (packed file.group) i (want.Look file asked) h
where_of packed i (want.Open file how) h = or_none (packed file.group) i (want.Open file how) h
where_of packed i (want.OpenToMend file) h = or_none (packed file.group) i (want.OpenToMend file) h
where_of packed i (want.Make group kind sites) h = or_none (packed group) i (want.Make group kind sites) h
where_of packed i (want.Do j o) h = h
where_of packed i (want.Close j) h = h
where_of packed i (want.Give r) h = h
where_of packed i want.Never h = h

pub script_of : (mounts : List Mount) (packed : ℕ → Bool) (free : Option ℕ) (f : EpochId) (i : Serial) (words : Call) → acknowledges words ≡ true → (xs : List Answer) → AsksOf i (wants mounts packed free words (begins.Uses f i) xs)
script_of mounts packed free f i (call.Commit fd) k xs = where_of packed i (op_wants i op.Commit xs) (op_of i xs)
script_of mounts packed free f i (call.Close fd) k xs = where_of packed i (close_wants i xs) (close_of i xs)
script_of mounts packed free f i _ k xs = absurd (false_true k)

-- what a commit or a close asks is no open
pub no_open : (i : Serial) (m : Mode) (f : FileId) (w : Want) → AsksOf i w → is_open_of m f w ≡ false
no_open i mode.Read f (want.Open g how) h = absurd h
no_open i mode.Read f _ h = refl
no_open i mode.Write f (want.Open g how) h = absurd h
no_open i mode.Write f _ h = refl
no_open i mode.Resolve f (want.Open g how) h = absurd h
no_open i mode.Resolve f _ h = refl
no_open i mode.Mend f (want.OpenToMend g) h = absurd h
no_open i mode.Mend f _ h = refl
no_open i mode.Make f (want.Make g k sites) h = absurd h
no_open i mode.Make f _ h = refl
