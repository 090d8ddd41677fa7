-- The script of a create, a mkdir or a mail: when it asks to insert an entry, its make was answered, and what it made is closed.
use Rattle.std.proofs.Common.{◌≡◌, ℕ, Bool, true, false, cond, List, [], ◌∷◌, ◌++◌, append-nil, Option, Some, None, refl, sym, ◌∙◌, ap, subst, inl, inr}
use Rattle.locus_ids.specs.declared.ids.CallId.{CallId}
use Rattle.locus_ids.specs.declared.config.Mount.{Mount}
use Rattle.locus_ids.specs.declared.ids.FileId.{FileId}
use Rattle.locus_ids.specs.declared.ids.Kind.{Kind}
use Rattle.locus_ids.specs.declared.ids.Kind.TheVariants as kind
use Rattle.locus_ids.specs.declared.ids.Serial.{Serial}
use Rattle.locus_ids.specs.declared.ids.Stamp.{Stamp}
use Rattle.locus_ids.specs.declared.refusal.Refusal.TheVariants as refusal
use Rattle.locus_ids.specs.declared.sites.Sites.{Sites}
use Rattle.trace_book.specs.Messages.{message_name}
use Rattle.trace_book.specs.Names.{but_last, components, last_of}
use Rattle.trace_book.specs.declared.call.Call.{Call}
use Rattle.trace_book.specs.declared.call.Call.TheVariants as call
use Rattle.trace_book.specs.declared.call.OpenMode.{OpenMode}
use Rattle.trace_book.specs.declared.descriptor.Beginning.{Beginning}
use Rattle.trace_book.specs.declared.descriptor.Beginning.TheVariants as begins
use Rattle.trace_book.specs.declared.operation.Op.{Op}
use Rattle.trace_book.specs.declared.operation.Op.TheVariants as op
use Rattle.trace_book.specs.declared.operation.Outcome.{Outcome}
use Rattle.trace_book.specs.declared.reply.Reply.{Reply}
use Rattle.trace_book.specs.declared.reply.Reply.TheVariants as reply
use Rattle.call_rules.specs.Mailing.{tells_name, shown_messages}
use Rattle.call_rules.specs.Making.{after_insert, after_make, after_probe, fills, opens_dir, probes}
use Rattle.call_rules.specs.Opening.{opens_file, uses_wants, shown_in}
use Rattle.call_rules.specs.Scripts.{begun_wants, named_wants, path_wants, wants, where_packed}
use Rattle.call_rules.specs.Walks.{mounted_in, passes, root_of, walk, walked}
use Rattle.call_rules.specs.Words.{is_badly_named}
use Rattle.call_rules.specs.declared.answer.Answer.{Answer}
use Rattle.call_rules.specs.declared.answer.Answer.TheVariants as answer
use Rattle.call_rules.specs.declared.want.Want.{Want}
use Rattle.call_rules.specs.declared.want.Want.TheVariants as want
use Rattle.tree_model.specs.Files.{kind_made}
use Rattle.tree_laws.proofs.Holding.{Script}
use Rattle.store_laws.proofs.AnswerScripting.{walked_so}
use Rattle.store_laws.proofs.OneTree.RemoveScripts.{Along, IsOr, along_more, along_same, goes, goes_walked, or_more, packed_is}
use Rattle.store_laws.proofs.Holdings.MendReopens.{reopen_so}
use Rattle.rest_laws.proofs.Fits.EntryAsked.{IsOfDirs, IsOfFiles, Parts, close_all_so, describes_so, finds_so, give_up_one, give_up_two, lists_so, mend_so, opens_dir_so, renames_so, uses_so}

-- what is opened or made is of the group
abbrev pub OpensIn : ℕ → Want → Type 0
OpensIn group (want.Open f m) = f.group ≡ group
OpensIn group (want.OpenToMend f) = f.group ≡ group
OpensIn group (want.Make g k sites) = g ≡ group
OpensIn group _ = Unit {0}

-- after these answers a call inserts an entry of this number and kind: what it made was opened under this number, it was written if the
-- call is a mail, and it is closed; and all that the call opened is of one group
pub record Inserting (words : Call) (k : Script) (xs : List Answer) (ino : ℕ) (kd : Kind) : Type 0 where
  pub before : List Answer
  pub made : Serial
  pub stamp : Option Stamp
  pub group : ℕ
  pub sites : Option Sites
  pub wrote : List Answer
  pub answers_are : xs ≡ before ++ answer.Opened made ino ∷ (wrote ++ answer.Ended stamp ∷ [])
  pub makes : IsOr (k before) (want.Make group kd sites)
  pub closes : k (before ++ answer.Opened made ino ∷ wrote) ≡ want.Close made
  pub in_group : Along (λ w a. OpensIn group w) k xs
  pub kind_is : kind_made (Some words) ≡ kd

-- ---- what inserts nothing ----

abbrev NotInsert : Want → Type 0
NotInsert (want.Do i (op.Insert name ino kd)) = ⊥
NotInsert _ = Unit {0}

no_insert : (w : Want) (i : Serial) (name : List ℕ) (ino : ℕ) (kd : Kind) → NotInsert w → w ≡ want.Do i (op.Insert name ino kd) → ⊥
no_insert w i name ino kd none e = subst NotInsert e none

dirs_insert_none : (i : Serial) (o : Op) → IsOfDirs o → NotInsert (want.Do i o)
dirs_insert_none i (op.Insert name ino kd) k = k
dirs_insert_none i _ k = tt

files_insert_none : (i : Serial) (o : Op) → IsOfFiles o → NotInsert (want.Do i o)
files_insert_none i (op.Insert name ino kd) k = k
files_insert_none i _ k = tt

none : Parts NotInsert
none = record { gives = λ r. tt; never = tt; closes = λ i. tt; does = dirs_insert_none; opens = λ f m. tt; mends = λ f. tt; makes = λ g k sites. tt; looks = λ f w k. tt }

user_none : (words : Call) (i : Serial) (xs : List Answer) → NotInsert (uses_wants words i xs)
user_none words i xs = uses_so NotInsert (record { gives = λ r. tt; never = tt; closes = λ j. tt }) files_insert_none words i xs

walk_none : (mounts : List Mount) (cs : List (List ℕ)) (xs : List Answer) (after : FileId → Kind → List Answer → Want) → ((f : FileId) (k : Kind) (ys : List Answer) → NotInsert (after f k ys)) → NotInsert (walked mounts cs xs after)
walk_none mounts cs xs after each = walked_so NotInsert (λ r. tt) tt (λ f w. tt) mounts cs xs after each

-- create, mkdir and mail insert an entry
abbrev Inserts : Call → Type 0
Inserts (call.Create path sites) = Unit {0}
Inserts (call.MakeDir path) = Unit {0}
Inserts (call.Mail path bytes) = Unit {0}
Inserts _ = ⊥

opens_file_none : (m : OpenMode) (free : Option ℕ) (f : FileId) (k : Kind) (xs : List Answer) → NotInsert (opens_file m free f k xs)
opens_file_none m free f kind.Dir xs = tt
opens_file_none m free f kind.File [] = tt
opens_file_none m (Some fd) f kind.File (answer.Opened i ino ∷ []) = tt
opens_file_none m (Some fd) f kind.File (answer.Reading i version ∷ []) = tt
opens_file_none m None f kind.File (answer.Refused why ∷ []) = tt
opens_file_none m (Some fd) f kind.File (answer.Refused why ∷ []) = tt
opens_file_none m None f kind.File (_ ∷ rest) = tt
opens_file_none m (Some fd) f kind.File (_ ∷ rest) = tt

others_none : (mounts : List Mount) (free : Option ℕ) (id : CallId) (words : Call) → (Inserts words → ⊥) → (xs : List Answer) → NotInsert (path_wants mounts free id words xs)
others_none mounts free id (call.Create path sites) other xs = absurd (other tt)
others_none mounts free id (call.MakeDir path) other xs = absurd (other tt)
others_none mounts free id (call.Mail path bytes) other xs = absurd (other tt)
others_none mounts free id (call.Unlink path) other xs = walk_none mounts _ xs _ (λ f k ys. opens_dir_so NotInsert none _ _ (λ p zs. finds_so NotInsert none kind.File p f.group _ zs) f k ys)
others_none mounts free id (call.RemoveDir path) other xs = walk_none mounts _ xs _ (λ f k ys. opens_dir_so NotInsert none _ _ (λ p zs. finds_so NotInsert none kind.Dir p f.group _ zs) f k ys)
others_none mounts free id (call.Rename path name) other xs = walk_none mounts _ xs _ (λ f k ys. opens_dir_so NotInsert none _ _ (λ p zs. renames_so NotInsert none p _ name zs) f k ys)
others_none mounts free id (call.List path) other xs = walk_none mounts (components path) xs _ (λ f k ys. lists_so NotInsert none (shown_in mounts) _ f k ys)
others_none mounts free id (call.Mails path) other xs = walk_none mounts (components path) xs _ (λ f k ys. lists_so NotInsert none shown_messages _ f k ys)
others_none mounts free id (call.Stat path) other xs = walk_none mounts (components path) xs _ (λ f k ys. describes_so NotInsert none f k ys)
others_none mounts free id (call.Open path m) other xs = walk_none mounts (components path) xs _ (λ f k ys. opens_file_none m free f k ys)
others_none mounts free id (call.Mend f) other xs = mend_so NotInsert none f xs
others_none mounts free id _ other xs = tt

-- ---- the end of the script ----

insert_parts : (p i : Serial) (name n : List ℕ) (m ino : ℕ) (kd k : Kind) → want.Do p (op.Insert name m kd) ≡ want.Do i (op.Insert n ino k) → (m ≡ ino) × (kd ≡ k)
insert_parts p i name n m ino kd k e = (cc, cc)

module _ (words : Call) (dir : FileId) (reached name : List ℕ) (kd : Kind) (of_words : kind_made (Some words) ≡ kd) (sites : Option Sites) (bytes : List ℕ) (tells : ℕ → Reply) (i : Serial) (n : List ℕ) (ino : ℕ) (k : Kind) where
  abbrev it : Want
  it = want.Do i (op.Insert n ino k)

  abbrev on : Script
  on = opens_dir reached (λ q rest. probes q dir.group name kd sites bytes tells rest) dir kind.Dir

  -- what is answered before the insert: the made file may be written
  abbrev opened : (p : Serial) (number : ℕ) (o : Outcome) (made : Serial) (m : ℕ) (wrote : List Answer) → List Answer → List Answer
  opened p number o made m wrote xs = answer.Opened p number ∷ answer.Did o ∷ answer.Opened made m ∷ (wrote ++ xs)

  -- the script goes on so once the made file is written, if it is, and all that is opened is of the directory's group
  record Goes (p : Serial) (number : ℕ) (o : Outcome) (made : Serial) (m : ℕ) (wrote : List Answer) : Type 0 where
    as_made : (ys : List Answer) → on (opened p number o made m wrote ys) ≡ after_make p name kd made m (tells m) ys
    grouped : (ys : List Answer) → Along (λ w a. OpensIn dir.group w) (λ zs. after_make p name kd made m (tells m) zs) ys → Along (λ w a. OpensIn dir.group w) (λ zs. fills p name kd bytes made m (tells m) zs) (wrote ++ ys)

  own : (p : Serial) (number : ℕ) (o : Outcome) (made : Serial) (m : ℕ) (wrote : List Answer) (s : Option Stamp) → Goes p number o made m wrote → Inserting words on (opened p number o made m wrote (answer.Ended s ∷ [])) m kd
  own p number o made m wrote s g = record {
    before = answer.Opened p number ∷ answer.Did o ∷ [];
    made = made;
    stamp = s;
    group = dir.group;
    sites = sites;
    wrote = wrote;
    answers_are = refl;
    makes = inl refl;
    closes = ap (λ (zs : List Answer). on (answer.Opened p number ∷ answer.Did o ∷ answer.Opened made m ∷ zs)) (sym (append-nil wrote)) ∙ g.as_made [];
    in_group = (refl, (tt, (refl, g.grouped (answer.Ended s ∷ []) (tt, tt))));
    kind_is = of_words;
  }

  inserted_end : (p : Serial) (number : ℕ) (o : Outcome) (made : Serial) (m : ℕ) (wrote : List Answer) (s : Option Stamp) → Goes p number o made m wrote → (xs : List Answer) → after_insert p name kd m (tells m) xs ≡ it → Inserting words on (opened p number o made m wrote (answer.Ended s ∷ xs)) ino k
  inserted_end p number o made m wrote s g [] e = (let same : (m ≡ ino) × (kd ≡ k) = insert_parts p i name n m ino kd k e in
      subst (λ (z : Kind). Inserting words on (opened p number o made m wrote (answer.Ended s ∷ [])) ino z) same.1
      (subst (λ (z : ℕ). Inserting words on (opened p number o made m wrote (answer.Ended s ∷ [])) z kd) same.0 (own p number o made m wrote s g)))
  inserted_end p number o made m wrote s g (answer.Did r ∷ rest) e = absurd (no_insert _ i n ino k (close_all_so NotInsert none (p ∷ []) (tells m) rest) e)
  inserted_end p number o made m wrote s g (answer.Refused why ∷ rest) e = absurd (no_insert _ i n ino k (give_up_one NotInsert none p why rest) e)
  inserted_end p number o made m wrote s g (_ ∷ rest) e = absurd (no_insert _ i n ino k tt e)

  made_end : (p : Serial) (number : ℕ) (o : Outcome) (made : Serial) (m : ℕ) (wrote : List Answer) → Goes p number o made m wrote → (xs : List Answer) → after_make p name kd made m (tells m) xs ≡ it → Inserting words on (opened p number o made m wrote xs) ino k
  made_end p number o made m wrote g [] e = absurd (no_insert _ i n ino k tt e)
  made_end p number o made m wrote g (answer.Ended s ∷ rest) e = inserted_end p number o made m wrote s g rest e
  made_end p number o made m wrote g (answer.Refused why ∷ rest) e = absurd (no_insert _ i n ino k (give_up_one NotInsert none p why rest) e)
  made_end p number o made m wrote g (_ ∷ rest) e = absurd (no_insert _ i n ino k tt e)

  -- it is written first, where it begins with some bytes
  filled_end : (p : Serial) (number : ℕ) (o : Outcome) (made : Serial) (m : ℕ) (first : List ℕ) → bytes ≡ first → (xs : List Answer) → fills p name kd first made m (tells m) xs ≡ it → Inserting words on (answer.Opened p number ∷ answer.Did o ∷ answer.Opened made m ∷ xs) ino k
  filled_end p number o made m [] is xs e = made_end p number o made m [] (record { as_made = λ ys. ap (λ (bs : List ℕ). fills p name kd bs made m (tells m) ys) is; grouped = λ ys h. subst (λ (bs : List ℕ). Along (λ w a. OpensIn dir.group w) (λ zs. fills p name kd bs made m (tells m) zs) ys) (sym is) h }) xs e
  filled_end p number o made m (b ∷ bs) is [] e = absurd (no_insert _ i n ino k tt e)
  filled_end p number o made m (b ∷ bs) is (answer.Did w ∷ rest) e = made_end p number o made m (answer.Did w ∷ []) (record {
    as_made = λ ys. ap (λ (zs : List ℕ). fills p name kd zs made m (tells m) (answer.Did w ∷ ys)) is;
    grouped = λ ys h. subst (λ (cs : List ℕ). Along (λ w a. OpensIn dir.group w) (λ zs. fills p name kd cs made m (tells m) zs) (answer.Did w ∷ ys)) (sym is) (tt, h);
  }) rest e
  filled_end p number o made m (b ∷ bs) is (answer.Refused why ∷ rest) e = absurd (no_insert _ i n ino k (give_up_two NotInsert none made p why rest) e)
  filled_end p number o made m (b ∷ bs) is (_ ∷ rest) e = absurd (no_insert _ i n ino k tt e)

  probed_end : (p : Serial) (number : ℕ) (o : Outcome) (xs : List Answer) → after_probe p dir.group name kd sites bytes tells xs ≡ it → Inserting words on (answer.Opened p number ∷ answer.Did o ∷ xs) ino k
  probed_end p number o [] e = absurd (no_insert _ i n ino k tt e)
  probed_end p number o (answer.Opened made m ∷ rest) e = filled_end p number o made m bytes refl rest e
  probed_end p number o (answer.Refused why ∷ rest) e = absurd (no_insert _ i n ino k (give_up_one NotInsert none p why rest) e)
  probed_end p number o (_ ∷ rest) e = absurd (no_insert _ i n ino k tt e)

  probes_end : (p : Serial) (number : ℕ) (xs : List Answer) → probes p dir.group name kd sites bytes tells xs ≡ it → Inserting words on (answer.Opened p number ∷ xs) ino k
  probes_end p number [] e = absurd (no_insert _ i n ino k tt e)
  probes_end p number (answer.Did o ∷ rest) e = probed_end p number o rest e
  probes_end p number (answer.Refused why ∷ rest) e = absurd (no_insert _ i n ino k (give_up_one NotInsert none p why rest) e)
  probes_end p number (_ ∷ rest) e = absurd (no_insert _ i n ino k tt e)

  opens_end : (at : Kind) (xs : List Answer) → opens_dir reached (λ q rest. probes q dir.group name kd sites bytes tells rest) dir at xs ≡ it → Inserting words (opens_dir reached (λ q rest. probes q dir.group name kd sites bytes tells rest) dir at) xs ino k
  opens_end kind.File xs e = absurd (no_insert _ i n ino k tt e)
  opens_end kind.Dir [] e = absurd (no_insert _ i n ino k tt e)
  opens_end kind.Dir (answer.Opened p number ∷ rest) e = probes_end p number rest e
  opens_end kind.Dir (answer.Refused why ∷ rest) e = absurd (no_insert _ i n ino k tt e)
  opens_end kind.Dir (_ ∷ rest) e = absurd (no_insert _ i n ino k tt e)

-- ---- the walk before it ----

-- an answer to a request that opens nothing
inserting_after : (words : Call) (k : Script) (a : Answer) (xs : List Answer) (ino : ℕ) (kd : Kind) → ((g : ℕ) → OpensIn g (k [])) → Inserting words (λ ys. k (a ∷ ys)) xs ino kd → Inserting words k (a ∷ xs) ino kd
inserting_after words k a xs ino kd opens m = record {
  before = a ∷ m.before;
  made = m.made;
  stamp = m.stamp;
  group = m.group;
  sites = m.sites;
  wrote = m.wrote;
  answers_are = ap (λ (ys : List Answer). a ∷ ys) m.answers_are;
  makes = m.makes;
  closes = m.closes;
  in_group = (opens m.group, m.in_group);
  kind_is = m.kind_is;
}

-- a script that is the same
inserting_same : (words : Call) (k l : Script) → ((ys : List Answer) → k ys ≡ l ys) → (xs : List Answer) (ino : ℕ) (kd : Kind) → Inserting words k xs ino kd → Inserting words l xs ino kd
inserting_same words k l same xs ino kd m = record {
  before = m.before;
  made = m.made;
  stamp = m.stamp;
  group = m.group;
  sites = m.sites;
  wrote = m.wrote;
  answers_are = m.answers_are;
  makes = subst (λ (w : Want). IsOr w (want.Make m.group kd m.sites)) (same m.before) m.makes;
  closes = sym (same (m.before ++ answer.Opened m.made ino ∷ m.wrote)) ∙ m.closes;
  in_group = along_same (λ w a. OpensIn m.group w) k l same xs m.in_group;
  kind_is = m.kind_is;
}

module _ (words : Call) (mounts : List Mount) (after : FileId → Kind → Script) (i : Serial) (n : List ℕ) (ino : ℕ) (kd : Kind) (each : (f : FileId) (k : Kind) (ys : List Answer) → after f k ys ≡ want.Do i (op.Insert n ino kd) → Inserting words (after f k) ys ino kd) where
  walk_inserting : (cs : List (List ℕ)) (reached : List ℕ) (at : FileId) (k : Kind) (xs : List Answer) → goes after (walk mounts cs reached at k xs) ≡ want.Do i (op.Insert n ino kd) → Inserting words (λ ys. goes after (walk mounts cs reached at k ys)) xs ino kd
  walk_inserting [] reached at k xs e = each at k xs e
  walk_inserting (c ∷ cs) reached at kind.File xs e = absurd (no_insert _ i n ino kd tt e)
  walk_inserting (c ∷ cs) reached at kind.Dir xs e = over (λ f k ys q. walk_inserting cs c f k ys q) (mounted_in mounts at c) xs e
    where
      over : ((f : FileId) (k : Kind) (ys : List Answer) → goes after (walk mounts cs c f k ys) ≡ want.Do i (op.Insert n ino kd) → Inserting words (λ zs. goes after (walk mounts cs c f k zs)) ys ino kd) →
          (m : Option ℕ) (ys : List Answer) → goes after (passes (walk mounts cs c) at c m ys) ≡ want.Do i (op.Insert n ino kd) → Inserting words (λ zs. goes after (passes (walk mounts cs c) at c m zs)) ys ino kd
      over later (Some g) ys q = later (root_of g) kind.Dir ys q
      over later None [] q = absurd (no_insert _ i n ino kd tt q)
      over later None (answer.Entered m k ∷ rest) q = inserting_after words _ (answer.Entered m k) rest ino kd (λ g. tt) (later (record { group = at.group; ino = m }) k rest q)
      over later None (answer.Refused why ∷ rest) q = absurd (no_insert _ i n ino kd tt q)
      over later None (_ ∷ rest) q = absurd (no_insert _ i n ino kd tt q)

-- what makes a file of this name in the directory to which these components lead
module _ (words : Call) (mounts : List Mount) (names : List (List ℕ)) (name : List ℕ) (kd : Kind) (sites : Option Sites) (bytes : List ℕ) (tells : ℕ → Reply) (of_words : kind_made (Some words) ≡ kd) where
  abbrev after : FileId → Kind → Script
  after dir at rest = opens_dir (last_of names) (λ p ys. probes p dir.group name kd sites bytes tells ys) dir at rest

  box_inserting : (i : Serial) (n : List ℕ) (ino : ℕ) (k : Kind) (xs : List Answer) → walked mounts names xs after ≡ want.Do i (op.Insert n ino k) → Inserting words (λ ys. walked mounts names ys after) xs ino k
  box_inserting i n ino k xs e = inserting_same words (λ ys. goes after (walk mounts names [] (root_of 0) kind.Dir ys)) (λ ys. walked mounts names ys after) (goes_walked mounts names after) xs ino k
      (walk_inserting words mounts after i n ino k (λ f at ys q. opens_end words f (last_of names) name kd of_words sites bytes tells i n ino k at ys q) names [] (root_of 0) kind.Dir xs (goes_walked mounts names after xs ∙ e))

-- ---- the whole script ----

path_inserting : (mounts : List Mount) (free : Option ℕ) (id : CallId) (words : Call) (i : Serial) (n : List ℕ) (ino : ℕ) (k : Kind) (xs : List Answer) → path_wants mounts free id words xs ≡ want.Do i (op.Insert n ino k) → Inserting words (path_wants mounts free id words) xs ino k
path_inserting mounts free id (call.Create path sites) i n ino k xs e = box_inserting (call.Create path sites) mounts (but_last (components path)) (last_of (components path)) kind.File sites [] reply.Made refl i n ino k xs e
path_inserting mounts free id (call.MakeDir path) i n ino k xs e = box_inserting (call.MakeDir path) mounts (but_last (components path)) (last_of (components path)) kind.Dir None [] reply.Made refl i n ino k xs e
path_inserting mounts free id (call.Mail path bytes) i n ino k xs e = box_inserting (call.Mail path bytes) mounts (components path) (message_name id) kind.File None bytes (tells_name (message_name id)) refl i n ino k xs e
path_inserting mounts free id words i n ino k xs e = absurd (no_insert _ i n ino k (others_none mounts free id words (λ r. r) xs) e)

begun_inserting : (mounts : List Mount) (free : Option ℕ) (words : Call) (b : Beginning) (i : Serial) (n : List ℕ) (ino : ℕ) (k : Kind) (xs : List Answer) → begun_wants mounts free words b xs ≡ want.Do i (op.Insert n ino k) → Inserting words (begun_wants mounts free words b) xs ino k
begun_inserting mounts free words (begins.Denied why) i n ino k xs e = absurd (no_insert _ i n ino k tt e)
begun_inserting mounts free words (begins.Uses epoch inst) i n ino k xs e = absurd (no_insert _ i n ino k (user_none words inst xs) e)
begun_inserting mounts free words (begins.Walks id) i n ino k xs e = path_inserting mounts free id words i n ino k xs e
begun_inserting mounts free words (begins.Reopens kept last) i n ino k xs e = absurd (no_insert _ i n ino k (reopen_so NotInsert kept (record { opens = tt; reads = λ j at len. tt; closes = λ j. tt; replies = λ r. tt; never = tt }) words last xs) e)
begun_inserting mounts free words begins.Frees i n ino k xs e = absurd (no_insert _ i n ino k tt e)

named_inserting : (mounts : List Mount) (free : Option ℕ) (words : Call) (b : Beginning) (i : Serial) (n : List ℕ) (ino : ℕ) (k : Kind) (xs : List Answer) → named_wants mounts free words b xs ≡ want.Do i (op.Insert n ino k) → Inserting words (named_wants mounts free words b) xs ino k
named_inserting mounts free words b i n ino k xs e = over (is_badly_named mounts words) e
  where
    over : (x : Bool) → cond x (want.Give (reply.No refusal.BadName)) (begun_wants mounts free words b xs) ≡ want.Do i (op.Insert n ino k) → Inserting words (λ ys. cond x (want.Give (reply.No refusal.BadName)) (begun_wants mounts free words b ys)) xs ino k
    over true q = absurd (no_insert _ i n ino k tt q)
    over false q = begun_inserting mounts free words b i n ino k xs q

-- by whether groups have packs
insert_unpacked : (p : ℕ → Bool) (w : Want) (i : Serial) (n : List ℕ) (ino : ℕ) (k : Kind) → where_packed p w ≡ want.Do i (op.Insert n ino k) → w ≡ want.Do i (op.Insert n ino k)
insert_unpacked p w i n ino k e = over (packed_is p w)
  where
    over : IsOr (where_packed p w) w → w ≡ want.Do i (op.Insert n ino k)
    over (inl q) = sym q ∙ e
    over (inr q) = absurd (no_insert _ i n ino k tt (sym q ∙ e))

opens_packed : (p : ℕ → Bool) (group : ℕ) (w : Want) → OpensIn group w → OpensIn group (where_packed p w)
opens_packed p group w k = over (packed_is p w)
  where
    over : IsOr (where_packed p w) w → OpensIn group (where_packed p w)
    over (inl q) = subst (OpensIn group) (sym q) k
    over (inr q) = subst (OpensIn group) (sym q) tt

-- what a call was answered that inserts an entry
pub wants_inserting : (mounts : List Mount) (p : ℕ → Bool) (free : Option ℕ) (words : Call) (b : Beginning) (i : Serial) (n : List ℕ) (ino : ℕ) (k : Kind) (xs : List Answer) → wants mounts p free words b xs ≡ want.Do i (op.Insert n ino k) → Inserting words (wants mounts p free words b) xs ino k
wants_inserting mounts p free words b i n ino k xs e = record {
  before = m.before;
  made = m.made;
  stamp = m.stamp;
  group = m.group;
  sites = m.sites;
  wrote = m.wrote;
  answers_are = m.answers_are;
  makes = or_more p (named_wants mounts free words b m.before) (want.Make m.group k m.sites) m.makes;
  closes = ap (where_packed p) m.closes;
  in_group = along_more (λ w a. OpensIn m.group w) (where_packed p) (λ w a z. opens_packed p m.group w z) (named_wants mounts free words b) xs m.in_group;
  kind_is = m.kind_is;
}
  where
    m : Inserting words (named_wants mounts free words b) xs ino k
    m = named_inserting mounts free words b i n ino k xs (insert_unpacked p (named_wants mounts free words b xs) i n ino k e)
