-- The script of a mail: when it asks to write, what it writes is the file that it has made.
use Rattle.std.proofs.Common.{◌≡◌, ℕ, Bool, true, false, cond, List, [], ◌∷◌, ◌++◌, Option, Some, None, refl, sym, ◌∙◌, ap, subst, inl, inr}
use Rattle.locus_ids.specs.declared.ids.CallId.{CallId}
use Rattle.locus_ids.specs.declared.config.Mount.{Mount}
use Rattle.locus_ids.specs.declared.ids.FileId.{FileId}
use Rattle.locus_ids.specs.declared.ids.Kind.{Kind}
use Rattle.locus_ids.specs.declared.ids.Kind.TheVariants as kind
use Rattle.locus_ids.specs.declared.ids.Serial.{Serial}
use Rattle.locus_ids.specs.declared.refusal.Refusal.TheVariants as refusal
use Rattle.locus_ids.specs.declared.sites.Sites.{Sites}
use Rattle.trace_book.specs.Messages.{message_name}
use Rattle.trace_book.specs.Names.{components, last_of}
use Rattle.trace_book.specs.declared.call.Call.{Call}
use Rattle.trace_book.specs.declared.call.Call.TheVariants as call
use Rattle.trace_book.specs.declared.call.OpenMode.{OpenMode}
use Rattle.trace_book.specs.declared.descriptor.Beginning.TheVariants as begins
use Rattle.trace_book.specs.declared.operation.Op.{Op}
use Rattle.trace_book.specs.declared.operation.Op.TheVariants as op
use Rattle.trace_book.specs.declared.operation.Outcome.{Outcome}
use Rattle.trace_book.specs.declared.reply.Reply.{Reply}
use Rattle.trace_book.specs.declared.reply.Reply.TheVariants as reply
use Rattle.call_rules.specs.Mailing.{tells_name, shown_messages}
use Rattle.call_rules.specs.Making.{after_insert, after_make, after_probe, fills, make_wants, opens_dir, probes}
use Rattle.call_rules.specs.Opening.{opens_file, shown_in}
use Rattle.call_rules.specs.Scripts.{begun_wants, named_wants, path_wants, wants, where_packed}
use Rattle.call_rules.specs.Walks.{mounted_in, passes, root_of, walk, walked}
use Rattle.call_rules.specs.Words.{is_badly_named}
use Rattle.call_rules.specs.declared.answer.Answer.{Answer}
use Rattle.call_rules.specs.declared.answer.Answer.TheVariants as answer
use Rattle.call_rules.specs.declared.want.Want.{Want}
use Rattle.call_rules.specs.declared.want.Want.TheVariants as want
use Rattle.tree_laws.proofs.Holding.{Script}
use Rattle.store_laws.proofs.AnswerScripting.{walked_so}
use Rattle.store_laws.proofs.OneTree.RemoveScripts.{IsOr, goes, goes_walked, or_more, packed_is}
use Rattle.rest_laws.proofs.Fits.EntryAsked.{IsOfDirs, Parts, close_all_so, describes_so, finds_so, give_up_one, give_up_two, lists_so, mend_so, opens_dir_so, probes_so, renames_so}

-- a walk's script asks to write at the end of these answers: what it writes was made, under this number, and opened last
pub record Writing (words : Call) (k : Script) (xs : List Answer) (i : Serial) : Type 0 where
  pub before : List Answer
  pub number : ℕ
  pub group : ℕ
  pub sites : Option Sites
  pub answers_are : xs ≡ before ++ answer.Opened i number ∷ []
  pub makes : IsOr (k before) (want.Make group kind.File sites)

abbrev NotWrite : Want → Type 0
NotWrite (want.Do i (op.Write at bytes)) = ⊥
NotWrite _ = Unit {0}

no_write : (w : Want) (i : Serial) (at : ℕ) (bytes : List ℕ) → NotWrite w → w ≡ want.Do i (op.Write at bytes) → ⊥
no_write w i at bytes none e = subst NotWrite e none

dirs_write_none : (i : Serial) (o : Op) → IsOfDirs o → NotWrite (want.Do i o)
dirs_write_none i (op.Write at bytes) k = k
dirs_write_none i _ k = tt

none : Parts NotWrite
none = record { gives = λ r. tt; never = tt; closes = λ i. tt; does = dirs_write_none; opens = λ f m. tt; mends = λ f. tt; makes = λ g k sites. tt; looks = λ f w k. tt }

walk_none : (mounts : List Mount) (cs : List (List ℕ)) (xs : List Answer) (after : FileId → Kind → List Answer → Want) → ((f : FileId) (k : Kind) (ys : List Answer) → NotWrite (after f k ys)) → NotWrite (walked mounts cs xs after)
walk_none mounts cs xs after each = walked_so NotWrite (λ r. tt) tt (λ f w. tt) mounts cs xs after each

-- mail alone writes
abbrev Writes : Call → Type 0
Writes (call.Mail path bytes) = Unit {0}
Writes _ = ⊥

opens_file_none : (m : OpenMode) (free : Option ℕ) (f : FileId) (k : Kind) (xs : List Answer) → NotWrite (opens_file m free f k xs)
opens_file_none m free f kind.Dir xs = tt
opens_file_none m free f kind.File [] = tt
opens_file_none m (Some fd) f kind.File (answer.Opened i ino ∷ []) = tt
opens_file_none m (Some fd) f kind.File (answer.Reading i version ∷ []) = tt
opens_file_none m None f kind.File (answer.Refused why ∷ []) = tt
opens_file_none m (Some fd) f kind.File (answer.Refused why ∷ []) = tt
opens_file_none m None f kind.File (_ ∷ rest) = tt
opens_file_none m (Some fd) f kind.File (_ ∷ rest) = tt

make_none : (mounts : List Mount) (path : List ℕ) (kd : Kind) (sites : Option Sites) (xs : List Answer) → NotWrite (make_wants mounts path kd sites xs)
make_none mounts path kd sites xs = walk_none mounts _ xs _ (λ f k ys. opens_dir_so NotWrite none _ _ (λ p zs. probes_so NotWrite none (λ i name ino k. tt) p f.group _ kd sites [] reply.Made tt zs) f k ys)

others_none : (mounts : List Mount) (free : Option ℕ) (id : CallId) (words : Call) → (Writes words → ⊥) → (xs : List Answer) → NotWrite (path_wants mounts free id words xs)
others_none mounts free id (call.Create path sites) other xs = make_none mounts path kind.File sites xs
others_none mounts free id (call.MakeDir path) other xs = make_none mounts path kind.Dir None xs
others_none mounts free id (call.Mail path bytes) other xs = absurd (other tt)
others_none mounts free id (call.Unlink path) other xs = walk_none mounts _ xs _ (λ f k ys. opens_dir_so NotWrite none _ _ (λ p zs. finds_so NotWrite none kind.File p f.group _ zs) f k ys)
others_none mounts free id (call.RemoveDir path) other xs = walk_none mounts _ xs _ (λ f k ys. opens_dir_so NotWrite none _ _ (λ p zs. finds_so NotWrite none kind.Dir p f.group _ zs) f k ys)
others_none mounts free id (call.Rename path name) other xs = walk_none mounts _ xs _ (λ f k ys. opens_dir_so NotWrite none _ _ (λ p zs. renames_so NotWrite none p _ name zs) f k ys)
others_none mounts free id (call.List path) other xs = walk_none mounts (components path) xs _ (λ f k ys. lists_so NotWrite none (shown_in mounts) _ f k ys)
others_none mounts free id (call.Mails path) other xs = walk_none mounts (components path) xs _ (λ f k ys. lists_so NotWrite none shown_messages _ f k ys)
others_none mounts free id (call.Stat path) other xs = walk_none mounts (components path) xs _ (λ f k ys. describes_so NotWrite none f k ys)
others_none mounts free id (call.Open path m) other xs = walk_none mounts (components path) xs _ (λ f k ys. opens_file_none m free f k ys)
others_none mounts free id (call.Mend f) other xs = mend_so NotWrite none f xs
others_none mounts free id _ other xs = tt

-- ---- the end of the script ----

doer : (a b : Serial) (o q : Op) → want.Do a o ≡ want.Do b q → a ≡ b
doer a b o q e = cc

module _ (words : Call) (dir : FileId) (reached name : List ℕ) (sites : Option Sites) (bytes : List ℕ) (tells : ℕ → Reply) (i : Serial) (at : ℕ) (written : List ℕ) where
  abbrev it : Want
  it = want.Do i (op.Write at written)

  abbrev on : Script
  on ys = opens_dir reached (λ p rest. probes p dir.group name kind.File sites bytes tells rest) dir kind.Dir ys

  inserted_end : (p : Serial) (m : ℕ) (xs : List Answer) → NotWrite (after_insert p name kind.File m (tells m) xs)
  inserted_end p m [] = tt
  inserted_end p m (answer.Did r ∷ rest) = close_all_so NotWrite none (p ∷ []) (tells m) rest
  inserted_end p m (answer.Refused why ∷ rest) = give_up_one NotWrite none p why rest
  inserted_end p m (_ ∷ rest) = tt

  made_end : (p made : Serial) (m : ℕ) (xs : List Answer) → NotWrite (after_make p name kind.File made m (tells m) xs)
  made_end p made m [] = tt
  made_end p made m (answer.Ended s ∷ rest) = inserted_end p m rest
  made_end p made m (answer.Refused why ∷ rest) = give_up_one NotWrite none p why rest
  made_end p made m (_ ∷ rest) = tt

  own : (p : Serial) (number : ℕ) (o : Outcome) (made : Serial) (m : ℕ) → made ≡ i → Writing words on (answer.Opened p number ∷ answer.Did o ∷ answer.Opened made m ∷ []) i
  own p number o made m is = subst (Writing words on (answer.Opened p number ∷ answer.Did o ∷ answer.Opened made m ∷ [])) is
      (record { before = answer.Opened p number ∷ answer.Did o ∷ []; number = m; group = dir.group; sites = sites; answers_are = refl; makes = inl refl })

  filled_end : (p : Serial) (number : ℕ) (o : Outcome) (made : Serial) (m : ℕ) (first : List ℕ) (xs : List Answer) → fills p name kind.File first made m (tells m) xs ≡ it → Writing words on (answer.Opened p number ∷ answer.Did o ∷ answer.Opened made m ∷ xs) i
  filled_end p number o made m [] xs e = absurd (no_write _ i at written (made_end p made m xs) e)
  filled_end p number o made m (b ∷ bs) [] e = own p number o made m (doer made i _ _ e)
  filled_end p number o made m (b ∷ bs) (answer.Did w ∷ rest) e = absurd (no_write _ i at written (made_end p made m rest) e)
  filled_end p number o made m (b ∷ bs) (answer.Refused why ∷ rest) e = absurd (no_write _ i at written (give_up_two NotWrite none made p why rest) e)
  filled_end p number o made m (b ∷ bs) (_ ∷ rest) e = absurd (no_write _ i at written tt e)

  probed_end : (p : Serial) (number : ℕ) (o : Outcome) (xs : List Answer) → after_probe p dir.group name kind.File sites bytes tells xs ≡ it → Writing words on (answer.Opened p number ∷ answer.Did o ∷ xs) i
  probed_end p number o [] e = absurd (no_write _ i at written tt e)
  probed_end p number o (answer.Opened made m ∷ rest) e = filled_end p number o made m bytes rest e
  probed_end p number o (answer.Refused why ∷ rest) e = absurd (no_write _ i at written (give_up_one NotWrite none p why rest) e)
  probed_end p number o (_ ∷ rest) e = absurd (no_write _ i at written tt e)

  probes_end : (p : Serial) (number : ℕ) (xs : List Answer) → probes p dir.group name kind.File sites bytes tells xs ≡ it → Writing words on (answer.Opened p number ∷ xs) i
  probes_end p number [] e = absurd (no_write _ i at written tt e)
  probes_end p number (answer.Did o ∷ rest) e = probed_end p number o rest e
  probes_end p number (answer.Refused why ∷ rest) e = absurd (no_write _ i at written (give_up_one NotWrite none p why rest) e)
  probes_end p number (_ ∷ rest) e = absurd (no_write _ i at written tt e)

  opens_end : (k : Kind) (xs : List Answer) → opens_dir reached (λ q rest. probes q dir.group name kind.File sites bytes tells rest) dir k xs ≡ it → Writing words (opens_dir reached (λ q rest. probes q dir.group name kind.File sites bytes tells rest) dir k) xs i
  opens_end kind.File xs e = absurd (no_write _ i at written tt e)
  opens_end kind.Dir [] e = absurd (no_write _ i at written tt e)
  opens_end kind.Dir (answer.Opened p number ∷ rest) e = probes_end p number rest e
  opens_end kind.Dir (answer.Refused why ∷ rest) e = absurd (no_write _ i at written tt e)
  opens_end kind.Dir (_ ∷ rest) e = absurd (no_write _ i at written tt e)

-- ---- the walk before it ----

writing_after : (words : Call) (k : Script) (a : Answer) (xs : List Answer) (i : Serial) → Writing words (λ ys. k (a ∷ ys)) xs i → Writing words k (a ∷ xs) i
writing_after words k a xs i m = record {
  before = a ∷ m.before;
  number = m.number;
  group = m.group;
  sites = m.sites;
  answers_are = ap (λ (ys : List Answer). a ∷ ys) m.answers_are;
  makes = m.makes;
}

-- a script that is the same
writing_same : (words : Call) (k l : Script) → ((ys : List Answer) → k ys ≡ l ys) → (xs : List Answer) (i : Serial) → Writing words k xs i → Writing words l xs i
writing_same words k l same xs i m = record {
  before = m.before;
  number = m.number;
  group = m.group;
  sites = m.sites;
  answers_are = m.answers_are;
  makes = subst (λ (w : Want). IsOr w (want.Make m.group kind.File m.sites)) (same m.before) m.makes;
}

module _ (words : Call) (mounts : List Mount) (after : FileId → Kind → Script) (i : Serial) (at : ℕ) (written : List ℕ) (each : (f : FileId) (k : Kind) (ys : List Answer) → after f k ys ≡ want.Do i (op.Write at written) → Writing words (after f k) ys i) where
  walk_writing : (cs : List (List ℕ)) (reached : List ℕ) (place : FileId) (k : Kind) (xs : List Answer) → goes after (walk mounts cs reached place k xs) ≡ want.Do i (op.Write at written) → Writing words (λ ys. goes after (walk mounts cs reached place k ys)) xs i
  walk_writing [] reached place k xs e = each place k xs e
  walk_writing (c ∷ cs) reached place kind.File xs e = absurd (no_write _ i at written tt e)
  walk_writing (c ∷ cs) reached place kind.Dir xs e = over (λ f k ys q. walk_writing cs c f k ys q) (mounted_in mounts place c) xs e
    where
      over : ((f : FileId) (k : Kind) (ys : List Answer) → goes after (walk mounts cs c f k ys) ≡ want.Do i (op.Write at written) → Writing words (λ zs. goes after (walk mounts cs c f k zs)) ys i) →
          (m : Option ℕ) (ys : List Answer) → goes after (passes (walk mounts cs c) place c m ys) ≡ want.Do i (op.Write at written) → Writing words (λ zs. goes after (passes (walk mounts cs c) place c m zs)) ys i
      over later (Some g) ys q = later (root_of g) kind.Dir ys q
      over later None [] q = absurd (no_write _ i at written tt q)
      over later None (answer.Entered m k ∷ rest) q = writing_after words _ (answer.Entered m k) rest i (later (record { group = place.group; ino = m }) k rest q)
      over later None (answer.Refused why ∷ rest) q = absurd (no_write _ i at written tt q)
      over later None (_ ∷ rest) q = absurd (no_write _ i at written tt q)

-- ---- the whole script ----

-- a mail, by the components of its path
module _ (words : Call) (mounts : List Mount) (names : List (List ℕ)) (name : List ℕ) (sites : Option Sites) (bytes : List ℕ) (tells : ℕ → Reply) where
  abbrev after : FileId → Kind → Script
  after dir k rest = opens_dir (last_of names) (λ p ys. probes p dir.group name kind.File sites bytes tells ys) dir k rest

  box_writing : (i : Serial) (at : ℕ) (written : List ℕ) (xs : List Answer) → walked mounts names xs after ≡ want.Do i (op.Write at written) → Writing words (λ ys. walked mounts names ys after) xs i
  box_writing i at written xs e = writing_same words (λ ys. goes after (walk mounts names [] (root_of 0) kind.Dir ys)) (λ ys. walked mounts names ys after) (goes_walked mounts names after) xs i
      (walk_writing words mounts after i at written (λ f k ys q. opens_end words f (last_of names) name sites bytes tells i at written k ys q) names [] (root_of 0) kind.Dir xs (goes_walked mounts names after xs ∙ e))

path_writing : (mounts : List Mount) (free : Option ℕ) (id : CallId) (words : Call) (i : Serial) (at : ℕ) (written : List ℕ) (xs : List Answer) → path_wants mounts free id words xs ≡ want.Do i (op.Write at written) → Writing words (path_wants mounts free id words) xs i
path_writing mounts free id (call.Mail path bytes) i at written xs e = box_writing (call.Mail path bytes) mounts (components path) (message_name id) None bytes (tells_name (message_name id)) i at written xs e
path_writing mounts free id words i at written xs e = absurd (no_write _ i at written (others_none mounts free id words (λ r. r) xs) e)

named_writing : (mounts : List Mount) (free : Option ℕ) (id : CallId) (words : Call) (i : Serial) (at : ℕ) (written : List ℕ) (xs : List Answer) → named_wants mounts free words (begins.Walks id) xs ≡ want.Do i (op.Write at written) → Writing words (named_wants mounts free words (begins.Walks id)) xs i
named_writing mounts free id words i at written xs e = over (is_badly_named mounts words) e
  where
    over : (x : Bool) → cond x (want.Give (reply.No refusal.BadName)) (begun_wants mounts free words (begins.Walks id) xs) ≡ want.Do i (op.Write at written) → Writing words (λ ys. cond x (want.Give (reply.No refusal.BadName)) (begun_wants mounts free words (begins.Walks id) ys)) xs i
    over true q = absurd (no_write _ i at written tt q)
    over false q = path_writing mounts free id words i at written xs q

-- by whether groups have packs
write_unpacked : (p : ℕ → Bool) (w : Want) (i : Serial) (at : ℕ) (written : List ℕ) → where_packed p w ≡ want.Do i (op.Write at written) → w ≡ want.Do i (op.Write at written)
write_unpacked p w i at written e = over (packed_is p w)
  where
    over : IsOr (where_packed p w) w → w ≡ want.Do i (op.Write at written)
    over (inl q) = sym q ∙ e
    over (inr q) = absurd (no_write _ i at written tt (sym q ∙ e))

-- what a call was answered that walks, and writes
pub wants_writing : (mounts : List Mount) (p : ℕ → Bool) (free : Option ℕ) (id : CallId) (words : Call) (i : Serial) (at : ℕ) (written : List ℕ) (xs : List Answer) → wants mounts p free words (begins.Walks id) xs ≡ want.Do i (op.Write at written) → Writing words (wants mounts p free words (begins.Walks id)) xs i
wants_writing mounts p free id words i at written xs e = record {
  before = m.before;
  number = m.number;
  group = m.group;
  sites = m.sites;
  answers_are = m.answers_are;
  makes = or_more p (named_wants mounts free words (begins.Walks id) m.before) (want.Make m.group kind.File m.sites) m.makes;
}
  where
    m : Writing words (named_wants mounts free words (begins.Walks id)) xs i
    m = named_writing mounts free id words i at written xs (write_unpacked p (named_wants mounts free words (begins.Walks id) xs) i at written e)
