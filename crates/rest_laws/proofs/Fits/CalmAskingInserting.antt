-- The script of a call that inserts an entry: it opens the directory first, to which its path has led, and inserts once.
use Rattle.std.proofs.Common.{◌≡◌, ℕ, Bool, true, false, cond, List, [], ◌∷◌, ◌++◌, Option, Some, None, refl, sym, ◌∙◌, ap, subst, inl, inr, append_assoc}
use Rattle.locus_ids.specs.declared.ids.CallId.{CallId}
use Rattle.locus_ids.specs.declared.config.Config.{Config}
use Rattle.locus_ids.specs.declared.config.Mount.{Mount}
use Rattle.locus_ids.specs.declared.ids.FileId.{FileId}
use Rattle.locus_ids.specs.declared.ids.Kind.{Kind}
use Rattle.locus_ids.specs.declared.ids.Kind.TheVariants as kind
use Rattle.locus_ids.specs.declared.ids.Serial.{Serial}
use Rattle.locus_ids.specs.declared.ids.Stamp.{Stamp}
use Rattle.locus_ids.specs.declared.refusal.Refusal.{Refusal}
use Rattle.locus_ids.specs.declared.refusal.Refusal.TheVariants as refusal
use Rattle.locus_ids.specs.declared.sites.Sites.{Sites}
use Rattle.trace_book.specs.Messages.{message_name}
use Rattle.trace_book.specs.Names.{but_last, components, last_of}
use Rattle.trace_book.specs.declared.call.Call.{Call}
use Rattle.trace_book.specs.declared.call.Call.TheVariants as call
use Rattle.trace_book.specs.declared.call.OpenMode.TheVariants as how
use Rattle.trace_book.specs.declared.descriptor.Beginning.{Beginning}
use Rattle.trace_book.specs.declared.descriptor.Beginning.TheVariants as begins
use Rattle.trace_book.specs.declared.operation.Op.{Op}
use Rattle.trace_book.specs.declared.operation.Op.TheVariants as op
use Rattle.trace_book.specs.declared.operation.Outcome.{Outcome}
use Rattle.trace_book.specs.declared.operation.What.TheVariants as what
use Rattle.trace_book.specs.declared.reply.Reply.{Reply}
use Rattle.trace_book.specs.declared.reply.Reply.TheVariants as reply
use Rattle.call_rules.specs.Closing.{Unchanged, close_all, give_up, gives}
use Rattle.call_rules.specs.Mailing.{tells_name}
use Rattle.call_rules.specs.Making.{after_insert, after_make, after_probe, fills, opens_dir, probes}
use Rattle.call_rules.specs.Scripts.{begun_wants, named_wants, path_wants, where_packed}
use Rattle.call_rules.specs.Walks.{mounted_in, passes, root_of, walk, walked}
use Rattle.call_rules.specs.Words.{is_badly_named}
use Rattle.call_rules.specs.declared.answer.Answer.{Answer}
use Rattle.call_rules.specs.declared.answer.Answer.TheVariants as answer
use Rattle.call_rules.specs.declared.want.Want.{Want}
use Rattle.call_rules.specs.declared.want.Want.TheVariants as want
use Rattle.tree_model.specs.Folds.{Trace}
use Rattle.tree_model.specs.declared.accepted.Waiting.{Waiting}
use Rattle.lawful_trace.specs.Progress.{is_packed_in}
use Rattle.tree_laws.specs.Calls.{script_as}
use Rattle.tree_laws.proofs.Holding.{Script}
use Rattle.store_laws.proofs.OneTree.RemoveScripts.{Along, IsOr, along_same, goes, goes_walked, or_more, packed_is}
use Rattle.store_laws.proofs.Holdings.MendReopens.{reopen_so}
use Rattle.rest_laws.proofs.Fits.CalmAskingWords.{IsUse, Makes, WalkAsks, close_all_so, give_up_one, give_up_two, path_so, use_so}

-- it inserts no entry
abbrev pub NotInsert : Want → Type 0
NotInsert (want.Do i (op.Insert name ino kd)) = ⊥
NotInsert _ = Unit {0}

-- after these answers the script inserts an entry in the directory that it has opened, and after more it inserts none
pub record Inserts (k : Script) (xs : List Answer) (p : Serial) : Type 0 where
  pub dir : FileId
  pub before : List Answer
  pub number : ℕ
  pub after : List Answer
  pub answers_are : xs ≡ before ++ answer.Opened p number ∷ after
  pub opens : IsOr (k before) (want.Open dir how.Write)
  pub once : (a : Answer) (ys : List Answer) → NotInsert (k (xs ++ a ∷ ys))

no_insert : (w : Want) (i : Serial) (name : List ℕ) (ino : ℕ) (kd : Kind) → NotInsert w → w ≡ want.Do i (op.Insert name ino kd) → ⊥
no_insert w i name ino kd none e = subst NotInsert e none

-- what no call asks that walks without a make is no insert
abbrev no_call : CallId
no_call = record { site = 0; boot = 0; n = 0 }

not_insert : (w : Want) → WalkAsks no_call (call.Stat []) w → NotInsert w
not_insert (want.Do i (op.Insert name ino kd)) k = k.1
not_insert _ k = tt

insert_serial : (p i : Serial) (m n : List ℕ) (a b : ℕ) (j l : Kind) → want.Do p (op.Insert m a j) ≡ want.Do i (op.Insert n b l) → p ≡ i
insert_serial p i m n a b j l e = cc

-- ---- the end of the script ----

inserted_none : (p : Serial) (name : List ℕ) (kd : Kind) (x : ℕ) (told : Reply) (a : Answer) (ys : List Answer) → NotInsert (after_insert p name kd x told (a ∷ ys))
inserted_none p name kd x told (answer.Did o) ys = not_insert _ (close_all_so no_call (call.Stat []) (p ∷ []) told ys)
inserted_none p name kd x told (answer.Refused why) ys = not_insert _ (give_up_one no_call (call.Stat []) p why ys)
inserted_none p name kd x told _ ys = tt

module _ (dir : FileId) (reached name : List ℕ) (kd : Kind) (sites : Option Sites) (bytes : List ℕ) (tells : ℕ → Reply) (i : Serial) (n : List ℕ) (ino : ℕ) (k : Kind) where
  abbrev on : Script
  on = opens_dir reached (λ q rest. probes q dir.group name kd sites bytes tells rest) dir kind.Dir

  -- what is answered before the insert: the made file may be written
  abbrev opened : (p made : Serial) (dino x : ℕ) (o : Outcome) (wrote : List Answer) → List Answer → List Answer
  opened p made dino x o wrote xs = answer.Opened p dino ∷ answer.Did o ∷ answer.Opened made x ∷ (wrote ++ xs)

  own : (p made : Serial) (dino x : ℕ) (o : Outcome) (wrote : List Answer) (s : Option Stamp) → ((ys : List Answer) → on (opened p made dino x o wrote ys) ≡ after_make p name kd made x (tells x) ys) → Inserts on (opened p made dino x o wrote (answer.Ended s ∷ [])) p
  own p made dino x o wrote s as_made = record {
    dir = dir;
    before = [];
    number = dino;
    after = answer.Did o ∷ answer.Opened made x ∷ (wrote ++ answer.Ended s ∷ []);
    answers_are = refl;
    opens = inl refl;
    once = λ a ys. subst NotInsert (sym (ap on (later a ys) ∙ as_made (answer.Ended s ∷ a ∷ ys))) (inserted_none p name kd x (tells x) a ys);
  }
    where
      later : (a : Answer) (ys : List Answer) → opened p made dino x o wrote (answer.Ended s ∷ []) ++ a ∷ ys ≡ opened p made dino x o wrote (answer.Ended s ∷ a ∷ ys)
      later a ys = ap (λ (zs : List Answer). answer.Opened p dino ∷ answer.Did o ∷ answer.Opened made x ∷ zs) (append_assoc wrote (answer.Ended s ∷ []) (a ∷ ys))

  inserted_end : (p made : Serial) (dino x : ℕ) (o : Outcome) (wrote : List Answer) (s : Option Stamp) → ((ys : List Answer) → on (opened p made dino x o wrote ys) ≡ after_make p name kd made x (tells x) ys) → (xs : List Answer) → after_insert p name kd x (tells x) xs ≡ want.Do i (op.Insert n ino k) → Inserts on (opened p made dino x o wrote (answer.Ended s ∷ xs)) i
  inserted_end p made dino x o wrote s as_made [] e = subst (Inserts on (opened p made dino x o wrote (answer.Ended s ∷ []))) (insert_serial p i name n x ino kd k e) (own p made dino x o wrote s as_made)
  inserted_end p made dino x o wrote s as_made (a ∷ xs) e = absurd (no_insert _ i n ino k (inserted_none p name kd x (tells x) a xs) e)

  made_end : (p made : Serial) (dino x : ℕ) (o : Outcome) (wrote : List Answer) → ((ys : List Answer) → on (opened p made dino x o wrote ys) ≡ after_make p name kd made x (tells x) ys) → (xs : List Answer) → after_make p name kd made x (tells x) xs ≡ want.Do i (op.Insert n ino k) → Inserts on (opened p made dino x o wrote xs) i
  made_end p made dino x o wrote as_made [] e = absurd (no_insert _ i n ino k tt e)
  made_end p made dino x o wrote as_made (answer.Ended s ∷ rest) e = inserted_end p made dino x o wrote s as_made rest e
  made_end p made dino x o wrote as_made (answer.Refused why ∷ rest) e = absurd (no_insert _ i n ino k (not_insert _ (give_up_one no_call (call.Stat []) p why rest)) e)
  made_end p made dino x o wrote as_made (_ ∷ rest) e = absurd (no_insert _ i n ino k tt e)

  -- it is written first, where it begins with some bytes
  filled_end : (p made : Serial) (dino x : ℕ) (o : Outcome) (first : List ℕ) → bytes ≡ first → (xs : List Answer) → fills p name kd first made x (tells x) xs ≡ want.Do i (op.Insert n ino k) → Inserts on (answer.Opened p dino ∷ answer.Did o ∷ answer.Opened made x ∷ xs) i
  filled_end p made dino x o [] is xs e = made_end p made dino x o [] (λ ys. ap (λ (bs : List ℕ). fills p name kd bs made x (tells x) ys) is) xs e
  filled_end p made dino x o (b ∷ bs) is [] e = absurd (no_insert _ i n ino k tt e)
  filled_end p made dino x o (b ∷ bs) is (answer.Did w ∷ rest) e = made_end p made dino x o (answer.Did w ∷ []) (λ ys. ap (λ (zs : List ℕ). fills p name kd zs made x (tells x) (answer.Did w ∷ ys)) is) rest e
  filled_end p made dino x o (b ∷ bs) is (answer.Refused why ∷ rest) e = absurd (no_insert _ i n ino k (not_insert _ (give_up_two no_call (call.Stat []) made p why rest)) e)
  filled_end p made dino x o (b ∷ bs) is (_ ∷ rest) e = absurd (no_insert _ i n ino k tt e)

  probed_end : (p : Serial) (dino : ℕ) (o : Outcome) (xs : List Answer) → after_probe p dir.group name kd sites bytes tells xs ≡ want.Do i (op.Insert n ino k) → Inserts on (answer.Opened p dino ∷ answer.Did o ∷ xs) i
  probed_end p dino o [] e = absurd (no_insert _ i n ino k tt e)
  probed_end p dino o (answer.Opened made x ∷ rest) e = filled_end p made dino x o bytes refl rest e
  probed_end p dino o (answer.Refused why ∷ rest) e = absurd (no_insert _ i n ino k (not_insert _ (give_up_one no_call (call.Stat []) p why rest)) e)
  probed_end p dino o (_ ∷ rest) e = absurd (no_insert _ i n ino k tt e)

  probes_end : (p : Serial) (dino : ℕ) (xs : List Answer) → probes p dir.group name kd sites bytes tells xs ≡ want.Do i (op.Insert n ino k) → Inserts on (answer.Opened p dino ∷ xs) i
  probes_end p dino [] e = absurd (no_insert _ i n ino k tt e)
  probes_end p dino (answer.Did o ∷ rest) e = probed_end p dino o rest e
  probes_end p dino (answer.Refused why ∷ rest) e = absurd (no_insert _ i n ino k (not_insert _ (give_up_one no_call (call.Stat []) p why rest)) e)
  probes_end p dino (_ ∷ rest) e = absurd (no_insert _ i n ino k tt e)

  opens_end : (at : Kind) (xs : List Answer) → opens_dir reached (λ q rest. probes q dir.group name kd sites bytes tells rest) dir at xs ≡ want.Do i (op.Insert n ino k) → Inserts (opens_dir reached (λ q rest. probes q dir.group name kd sites bytes tells rest) dir at) xs i
  opens_end kind.File xs e = absurd (no_insert _ i n ino k tt e)
  opens_end kind.Dir [] e = absurd (no_insert _ i n ino k tt e)
  opens_end kind.Dir (answer.Opened p dino ∷ rest) e = probes_end p dino rest e
  opens_end kind.Dir (answer.Refused why ∷ rest) e = absurd (no_insert _ i n ino k tt e)
  opens_end kind.Dir (_ ∷ rest) e = absurd (no_insert _ i n ino k tt e)

-- ---- the walk before it ----

inserts_after : (k : Script) (a : Answer) (xs : List Answer) (p : Serial) → Inserts (λ ys. k (a ∷ ys)) xs p → Inserts k (a ∷ xs) p
inserts_after k a xs p m = record { dir = m.dir; before = a ∷ m.before; number = m.number; after = m.after; answers_are = ap (λ (ys : List Answer). a ∷ ys) m.answers_are; opens = m.opens; once = m.once }

inserts_same : (k l : Script) → ((ys : List Answer) → k ys ≡ l ys) → (xs : List Answer) (p : Serial) → Inserts k xs p → Inserts l xs p
inserts_same k l same xs p m = record {
  dir = m.dir;
  before = m.before;
  number = m.number;
  after = m.after;
  answers_are = m.answers_are;
  opens = subst (λ (w : Want). IsOr w (want.Open m.dir how.Write)) (same m.before) m.opens;
  once = λ a ys. subst NotInsert (same (xs ++ a ∷ ys)) (m.once a ys);
}

module _ (mounts : List Mount) (after : FileId → Kind → Script) (i : Serial) (n : List ℕ) (ino : ℕ) (k : Kind) (each : (f : FileId) (kd : Kind) (ys : List Answer) → after f kd ys ≡ want.Do i (op.Insert n ino k) → Inserts (after f kd) ys i) where
  walk_inserts : (cs : List (List ℕ)) (reached : List ℕ) (at : FileId) (kd : Kind) (xs : List Answer) → goes after (walk mounts cs reached at kd xs) ≡ want.Do i (op.Insert n ino k) → Inserts (λ ys. goes after (walk mounts cs reached at kd ys)) xs i
  walk_inserts [] reached at kd xs e = each at kd xs e
  walk_inserts (c ∷ cs) reached at kind.File xs e = absurd (no_insert _ i n ino k tt e)
  walk_inserts (c ∷ cs) reached at kind.Dir xs e = over (λ f kd ys q. walk_inserts cs c f kd ys q) (mounted_in mounts at c) xs e
    where
      over : ((f : FileId) (kd : Kind) (ys : List Answer) → goes after (walk mounts cs c f kd ys) ≡ want.Do i (op.Insert n ino k) → Inserts (λ zs. goes after (walk mounts cs c f kd zs)) ys i) →
          (m : Option ℕ) (ys : List Answer) → goes after (passes (walk mounts cs c) at c m ys) ≡ want.Do i (op.Insert n ino k) → Inserts (λ zs. goes after (passes (walk mounts cs c) at c m zs)) ys i
      over later (Some g) ys q = later (root_of g) kind.Dir ys q
      over later None [] q = absurd (no_insert _ i n ino k tt q)
      over later None (answer.Entered m kd ∷ rest) q = inserts_after _ (answer.Entered m kd) rest i (later (record { group = at.group; ino = m }) kd rest q)
      over later None (answer.Refused why ∷ rest) q = absurd (no_insert _ i n ino k tt q)
      over later None (_ ∷ rest) q = absurd (no_insert _ i n ino k tt q)

-- what makes a file of this name in the directory to which these components lead
module _ (mounts : List Mount) (names : List (List ℕ)) (name : List ℕ) (kd : Kind) (sites : Option Sites) (bytes : List ℕ) (tells : ℕ → Reply) where
  abbrev after : FileId → Kind → Script
  after dir at rest = opens_dir (last_of names) (λ p ys. probes p dir.group name kd sites bytes tells ys) dir at rest

  box_inserts : (i : Serial) (n : List ℕ) (ino : ℕ) (k : Kind) (xs : List Answer) → walked mounts names xs after ≡ want.Do i (op.Insert n ino k) → Inserts (λ ys. walked mounts names ys after) xs i
  box_inserts i n ino k xs e = inserts_same (λ ys. goes after (walk mounts names [] (root_of 0) kind.Dir ys)) (λ ys. walked mounts names ys after) (goes_walked mounts names after) xs i
      (walk_inserts mounts after i n ino k (λ f at ys q. opens_end f (last_of names) name kd sites bytes tells i n ino k at ys q) names [] (root_of 0) kind.Dir xs (goes_walked mounts names after xs ∙ e))

-- ---- the whole script ----

others_none : (d : CallId) (words : Call) → (Makes words → ⊥) → (w : Want) → WalkAsks d words w → NotInsert w
others_none d words other (want.Do i (op.Insert name ino kd)) k = other k.1
others_none d words other _ k = tt

path_inserts : (mounts : List Mount) (free : Option ℕ) (id : CallId) (words : Call) → is_badly_named mounts words ≡ false → (i : Serial) (n : List ℕ) (ino : ℕ) (k : Kind) (xs : List Answer) → path_wants mounts free id words xs ≡ want.Do i (op.Insert n ino k) → Inserts (path_wants mounts free id words) xs i
path_inserts mounts free id (call.Create path sites) h i n ino k xs e = box_inserts mounts (but_last (components path)) (last_of (components path)) kind.File sites [] reply.Made i n ino k xs e
path_inserts mounts free id (call.MakeDir path) h i n ino k xs e = box_inserts mounts (but_last (components path)) (last_of (components path)) kind.Dir None [] reply.Made i n ino k xs e
path_inserts mounts free id (call.Mail path bytes) h i n ino k xs e = box_inserts mounts (components path) (message_name id) kind.File None bytes (tells_name (message_name id)) i n ino k xs e
path_inserts mounts free id words h i n ino k xs e = absurd (no_insert _ i n ino k (others_none id words (λ r. r) (path_wants mounts free id words xs) (path_so mounts free id words h xs)) e)

begun_inserts : (mounts : List Mount) (free : Option ℕ) (words : Call) → is_badly_named mounts words ≡ false → (b : Beginning) (i : Serial) (n : List ℕ) (ino : ℕ) (k : Kind) (xs : List Answer) → begun_wants mounts free words b xs ≡ want.Do i (op.Insert n ino k) → Inserts (begun_wants mounts free words b) xs i
begun_inserts mounts free words h (begins.Denied why) i n ino k xs e = absurd (no_insert _ i n ino k tt e)
begun_inserts mounts free words h (begins.Uses epoch inst) i n ino k xs e = absurd (by words (use_so words inst i (op.Insert n ino k) xs e).1)
  where
    by : (w : Call) → IsUse w (op.Insert n ino k) → ⊥
    by (call.Read fd at len) u = cc
    by (call.Write fd at bytes) u = cc
    by (call.Cut fd len) u = cc
    by (call.Commit fd) u = cc
    by (call.Abort fd) u = cc
    by _ u = u
begun_inserts mounts free words h (begins.Walks id) i n ino k xs e = path_inserts mounts free id words h i n ino k xs e
begun_inserts mounts free words h (begins.Reopens kept last) i n ino k xs e = absurd (no_insert _ i n ino k (reopen_so NotInsert kept (record { opens = tt; reads = λ j at len. tt; closes = λ j. tt; replies = λ r. tt; never = tt }) words last xs) e)
begun_inserts mounts free words h begins.Frees i n ino k xs e = absurd (no_insert _ i n ino k tt e)

named_inserts : (mounts : List Mount) (free : Option ℕ) (words : Call) (b : Beginning) (i : Serial) (n : List ℕ) (ino : ℕ) (k : Kind) (xs : List Answer) → named_wants mounts free words b xs ≡ want.Do i (op.Insert n ino k) → Inserts (named_wants mounts free words b) xs i
named_inserts mounts free words b i n ino k xs e = over (is_badly_named mounts words) refl e
  where
    over : (x : Bool) → is_badly_named mounts words ≡ x → cond x (want.Give (reply.No refusal.BadName)) (begun_wants mounts free words b xs) ≡ want.Do i (op.Insert n ino k) → Inserts (λ ys. cond x (want.Give (reply.No refusal.BadName)) (begun_wants mounts free words b ys)) xs i
    over true q z = absurd (no_insert _ i n ino k tt z)
    over false q z = begun_inserts mounts free words q b i n ino k xs z

-- by whether groups have packs
packed_none : (p : ℕ → Bool) (w : Want) → NotInsert w → NotInsert (where_packed p w)
packed_none p w none = over (packed_is p w)
  where
    over : IsOr (where_packed p w) w → NotInsert (where_packed p w)
    over (inl e) = subst NotInsert (sym e) none
    over (inr e) = subst NotInsert (sym e) tt

pub unpacked : (p : ℕ → Bool) (w : Want) (i : Serial) (o : Op) → where_packed p w ≡ want.Do i o → w ≡ want.Do i o
unpacked p w i o e = over (packed_is p w)
  where
    refused : want.Give (reply.No refusal.NoStorage) ≡ want.Do i o → ⊥
    refused e = cc

    over : IsOr (where_packed p w) w → w ≡ want.Do i o
    over (inl q) = sym q ∙ e
    over (inr q) = absurd (refused (sym q ∙ e))

-- what a call was answered that inserts
pub script_inserts : (c : Config) (before : Trace) (w : Option Waiting) (b : Option Beginning) (i : Serial) (n : List ℕ) (ino : ℕ) (k : Kind) (xs : List Answer) → script_as c before w b None xs ≡ want.Do i (op.Insert n ino k) → Inserts (script_as c before w b None) xs i
script_inserts c before None b i n ino k xs e = absurd (no_insert _ i n ino k tt e)
script_inserts c before (Some w) None i n ino k xs e = absurd (no_insert _ i n ino k tt e)
script_inserts c before (Some w) (Some b) i n ino k xs e = record {
  dir = m.dir;
  before = m.before;
  number = m.number;
  after = m.after;
  answers_are = m.answers_are;
  opens = or_more (is_packed_in c before w.epoch) (named_wants c.mounts None w.words b m.before) (want.Open m.dir how.Write) m.opens;
  once = λ a ys. packed_none (is_packed_in c before w.epoch) (named_wants c.mounts None w.words b (xs ++ a ∷ ys)) (m.once a ys);
}
  where
    m : Inserts (named_wants c.mounts None w.words b) xs i
    m = named_inserts c.mounts None w.words b i n ino k xs (unpacked (is_packed_in c before w.epoch) (named_wants c.mounts None w.words b xs) i (op.Insert n ino k) e)

-- ---- what it opens ----

-- it opens no file that stands
abbrev NotOpen : Want → Type 0
NotOpen (want.Open f m) = ⊥
NotOpen _ = Unit {0}

gives_open : (r : Reply) (xs : List Answer) → NotOpen (gives r xs)
gives_open r [] = tt
gives_open r (x ∷ xs) = tt

up_open : (p : Serial) (why : Refusal) (xs : List Answer) → NotOpen (give_up (Unchanged p ∷ []) why xs)
up_open p why [] = tt
up_open p why (answer.Ended stamp ∷ rest) = gives_open (reply.No why) rest
up_open p why (answer.Refused other ∷ rest) = gives_open (reply.No why) rest
up_open p why (_ ∷ rest) = tt

two_open : (q p : Serial) (why : Refusal) (xs : List Answer) → NotOpen (give_up (Unchanged q ∷ Unchanged p ∷ []) why xs)
two_open q p why [] = tt
two_open q p why (answer.Ended stamp ∷ rest) = up_open p why rest
two_open q p why (answer.Refused other ∷ rest) = up_open p why rest
two_open q p why (_ ∷ rest) = tt

closed_open : (p : Serial) (r : Reply) (xs : List Answer) → NotOpen (close_all (p ∷ []) r xs)
closed_open p r [] = tt
closed_open p r (answer.Ended stamp ∷ rest) = gives_open r rest
closed_open p r (answer.Refused why ∷ rest) = gives_open (reply.No why) rest
closed_open p r (_ ∷ rest) = tt

module _ (p : Serial) (name : List ℕ) (kd : Kind) where
  insert_open : (x : ℕ) (told : Reply) (xs : List Answer) → NotOpen (after_insert p name kd x told xs)
  insert_open x told [] = tt
  insert_open x told (answer.Did o ∷ rest) = closed_open p told rest
  insert_open x told (answer.Refused why ∷ rest) = up_open p why rest
  insert_open x told (_ ∷ rest) = tt

  make_open : (made : Serial) (x : ℕ) (told : Reply) (xs : List Answer) → NotOpen (after_make p name kd made x told xs)
  make_open made x told [] = tt
  make_open made x told (answer.Ended s ∷ rest) = insert_open x told rest
  make_open made x told (answer.Refused why ∷ rest) = up_open p why rest
  make_open made x told (_ ∷ rest) = tt

  fill_open : (bytes : List ℕ) (made : Serial) (x : ℕ) (told : Reply) (xs : List Answer) → NotOpen (fills p name kd bytes made x told xs)
  fill_open [] made x told xs = make_open made x told xs
  fill_open (b ∷ bs) made x told [] = tt
  fill_open (b ∷ bs) made x told (answer.Did o ∷ rest) = make_open made x told rest
  fill_open (b ∷ bs) made x told (answer.Refused why ∷ rest) = two_open made p why rest
  fill_open (b ∷ bs) made x told (_ ∷ rest) = tt

  probe_open : (group : ℕ) (sites : Option Sites) (bytes : List ℕ) (tells : ℕ → Reply) (xs : List Answer) → NotOpen (after_probe p group name kd sites bytes tells xs)
  probe_open group sites bytes tells [] = tt
  probe_open group sites bytes tells (answer.Opened made x ∷ rest) = fill_open bytes made x (tells x) rest
  probe_open group sites bytes tells (answer.Refused why ∷ rest) = up_open p why rest
  probe_open group sites bytes tells (_ ∷ rest) = tt

  probes_open : (group : ℕ) (sites : Option Sites) (bytes : List ℕ) (tells : ℕ → Reply) (xs : List Answer) → NotOpen (probes p group name kd sites bytes tells xs)
  probes_open group sites bytes tells [] = tt
  probes_open group sites bytes tells (answer.Did o ∷ rest) = probe_open group sites bytes tells rest
  probes_open group sites bytes tells (answer.Refused why ∷ rest) = up_open p why rest
  probes_open group sites bytes tells (_ ∷ rest) = tt

-- Each request was answered so. A component of a path that was entered is known, and so are the roots; and a reply isn't answered.
module _ (Q : Want → Answer → Type 0) (Known : FileId → Kind → Type 0) (entered : (at : FileId) (component : List ℕ) (ino : ℕ) (k : Kind) → Q (want.Look at (what.Name component)) (answer.Entered ino k) → Known (record { group = at.group; ino = ino }) k) (roots : (g : ℕ) → Known (root_of g) kind.Dir) (unanswered : (r : Reply) (a : Answer) → Q (want.Give r) a → ⊥) where
  -- what a call opens that makes a file is a directory
  abbrev OpensDir : Call → FileId → Type 0
  OpensDir (call.Create path sites) f = Known f kind.Dir
  OpensDir (call.MakeDir path) f = Known f kind.Dir
  OpensDir (call.Mail path bytes) f = Known f kind.Dir
  OpensDir _ f = Unit {0}

  abbrev DirOpens : Call → Want → Type 0
  DirOpens words (want.Open f m) = OpensDir words f
  DirOpens words _ = Unit {0}

  other_dir : (words : Call) → (Makes words → ⊥) → (f : FileId) → OpensDir words f
  other_dir (call.Create path sites) other f = absurd (other tt)
  other_dir (call.MakeDir path) other f = absurd (other tt)
  other_dir (call.Mail path bytes) other f = absurd (other tt)
  other_dir _ other f = tt

  other_opens : (words : Call) → (Makes words → ⊥) → (w : Want) → DirOpens words w
  other_opens words other (want.Open f m) = other_dir words other f
  other_opens words other _ = tt

  not_opens : (words : Call) (w : Want) → NotOpen w → DirOpens words w
  not_opens words (want.Open f m) k = absurd k
  not_opens words _ k = tt

  module _ (words : Call) (mounts : List Mount) (after : FileId → Kind → Script) (each : (f : FileId) (k : Kind) (ys : List Answer) → Known f k → DirOpens words (after f k ys)) where
    walk_dir : (cs : List (List ℕ)) (reached : List ℕ) (at : FileId) (k : Kind) (xs : List Answer) → Known at k → Along Q (λ ys. goes after (walk mounts cs reached at k ys)) xs → DirOpens words (goes after (walk mounts cs reached at k xs))
    walk_dir [] reached at k xs known h = each at k xs known
    walk_dir (c ∷ cs) reached at kind.File xs known h = tt
    walk_dir (c ∷ cs) reached at kind.Dir xs known h = over (λ f k ys n l. walk_dir cs c f k ys n l) (mounted_in mounts at c) xs h
      where
        over : ((f : FileId) (k : Kind) (ys : List Answer) → Known f k → Along Q (λ zs. goes after (walk mounts cs c f k zs)) ys → DirOpens words (goes after (walk mounts cs c f k ys))) →
            (m : Option ℕ) (ys : List Answer) → Along Q (λ zs. goes after (passes (walk mounts cs c) at c m zs)) ys → DirOpens words (goes after (passes (walk mounts cs c) at c m ys))
        over later (Some group) ys q = later (root_of group) kind.Dir ys (roots group) q
        over later None [] q = tt
        over later None (answer.Entered m k ∷ rest) q = later (record { group = at.group; ino = m }) k rest (entered at c m k q.0) q.1
        over later None (answer.Refused why ∷ rest) q = tt
        over later None (_ ∷ rest) q = tt

    walked_dir : (cs : List (List ℕ)) (xs : List Answer) → Along Q (λ ys. walked mounts cs ys after) xs → DirOpens words (walked mounts cs xs after)
    walked_dir cs xs h = subst (DirOpens words) (goes_walked mounts cs after xs) (walk_dir cs [] (root_of 0) kind.Dir xs (roots 0)
        (along_same Q (λ ys. walked mounts cs ys after) (λ ys. goes after (walk mounts cs [] (root_of 0) kind.Dir ys)) (λ ys. sym (goes_walked mounts cs after ys)) xs h))

  dir_opened : (words : Call) (reached name : List ℕ) (kd : Kind) (sites : Option Sites) (bytes : List ℕ) (tells : ℕ → Reply) → ((f : FileId) → Known f kind.Dir → OpensDir words f) → (f : FileId) (k : Kind) (ys : List Answer) → Known f k → DirOpens words (opens_dir reached (λ p zs. probes p f.group name kd sites bytes tells zs) f k ys)
  dir_opened words reached name kd sites bytes tells so f kind.File ys known = tt
  dir_opened words reached name kd sites bytes tells so f kind.Dir [] known = so f known
  dir_opened words reached name kd sites bytes tells so f kind.Dir (answer.Opened p ino ∷ rest) known = not_opens words _ (probes_open p name kd f.group sites bytes tells rest)
  dir_opened words reached name kd sites bytes tells so f kind.Dir (answer.Refused why ∷ rest) known = tt
  dir_opened words reached name kd sites bytes tells so f kind.Dir (_ ∷ rest) known = tt

  path_dir : (mounts : List Mount) (free : Option ℕ) (id : CallId) (words : Call) (xs : List Answer) → Along Q (path_wants mounts free id words) xs → DirOpens words (path_wants mounts free id words xs)
  path_dir mounts free id (call.Create path sites) xs h = walked_dir (call.Create path sites) mounts _ (λ f k ys known. dir_opened (call.Create path sites) _ _ kind.File sites [] reply.Made (λ g q. q) f k ys known) (but_last (components path)) xs h
  path_dir mounts free id (call.MakeDir path) xs h = walked_dir (call.MakeDir path) mounts _ (λ f k ys known. dir_opened (call.MakeDir path) _ _ kind.Dir None [] reply.Made (λ g q. q) f k ys known) (but_last (components path)) xs h
  path_dir mounts free id (call.Mail path bytes) xs h = walked_dir (call.Mail path bytes) mounts _ (λ f k ys known. dir_opened (call.Mail path bytes) _ (message_name id) kind.File None bytes (tells_name (message_name id)) (λ g q. q) f k ys known) (components path) xs h
  path_dir mounts free id words xs h = other_opens words (λ r. r) (path_wants mounts free id words xs)

  begun_dir : (mounts : List Mount) (free : Option ℕ) (words : Call) (b : Beginning) (xs : List Answer) → Makes words → Along Q (begun_wants mounts free words b) xs → DirOpens words (begun_wants mounts free words b xs)
  begun_dir mounts free words (begins.Walks id) xs makes h = path_dir mounts free id words xs h
  begun_dir mounts free words (begins.Denied why) xs makes h = tt
  begun_dir mounts free (call.Create path sites) (begins.Uses e i) xs makes h = tt
  begun_dir mounts free (call.MakeDir path) (begins.Uses e i) xs makes h = tt
  begun_dir mounts free (call.Mail path bytes) (begins.Uses e i) xs makes h = tt
  begun_dir mounts free _ (begins.Uses e i) xs makes h = absurd makes
  begun_dir mounts free (call.Create path sites) (begins.Reopens kept last) xs makes h = tt
  begun_dir mounts free (call.MakeDir path) (begins.Reopens kept last) xs makes h = tt
  begun_dir mounts free (call.Mail path bytes) (begins.Reopens kept last) xs makes h = tt
  begun_dir mounts free _ (begins.Reopens kept last) xs makes h = absurd makes
  begun_dir mounts free words begins.Frees xs makes h = tt

  unpacked_answer : (pk : ℕ → Bool) (w : Want) (a : Answer) → Q (where_packed pk w) a → Q w a
  unpacked_answer pk w a k = over (packed_is pk w)
    where
      over : IsOr (where_packed pk w) w → Q w a
      over (inl e) = subst (λ (v : Want). Q v a) e k
      over (inr e) = absurd (unanswered (reply.No refusal.NoStorage) a (subst (λ (v : Want). Q v a) e k))

  along_unpacked : (pk : ℕ → Bool) (k : Script) (xs : List Answer) → Along Q (λ ys. where_packed pk (k ys)) xs → Along Q k xs
  along_unpacked pk k [] h = tt
  along_unpacked pk k (a ∷ xs) h = (unpacked_answer pk (k []) a h.0, along_unpacked pk (λ ys. k (a ∷ ys)) xs h.1)

  -- what a call opens that makes a file is a directory that is known
  pub script_dir : (c : Config) (before : Trace) (w : Waiting) (b : Beginning) (xs : List Answer) (f : FileId) → Makes w.words → Along Q (script_as c before (Some w) (Some b) None) xs → script_as c before (Some w) (Some b) None xs ≡ want.Open f how.Write → Known f kind.Dir
  script_dir c before w b xs f makes h e = over (is_badly_named c.mounts w.words) (along_unpacked pk (named_wants c.mounts None w.words b) xs h) (wanted (packed_is pk (named_wants c.mounts None w.words b xs)))
    where
      pk : ℕ → Bool
      pk = is_packed_in c before w.epoch

      refused : (r : Reply) → want.Give r ≡ want.Open f how.Write → ⊥
      refused r q = cc

      wanted : IsOr (where_packed pk (named_wants c.mounts None w.words b xs)) (named_wants c.mounts None w.words b xs) → named_wants c.mounts None w.words b xs ≡ want.Open f how.Write
      wanted (inl q) = sym q ∙ e
      wanted (inr q) = absurd (refused (reply.No refusal.NoStorage) (sym q ∙ e))

      known : (words : Call) → Makes words → DirOpens words (want.Open f how.Write) → Known f kind.Dir
      known (call.Create path sites) m k = k
      known (call.MakeDir path) m k = k
      known (call.Mail path bytes) m k = k
      known _ m k = absurd m

      over : (x : Bool) → Along Q (λ ys. cond x (want.Give (reply.No refusal.BadName)) (begun_wants c.mounts None w.words b ys)) xs → cond x (want.Give (reply.No refusal.BadName)) (begun_wants c.mounts None w.words b xs) ≡ want.Open f how.Write → Known f kind.Dir
      over true k q = absurd (refused (reply.No refusal.BadName) q)
      over false k q = known w.words makes (subst (DirOpens w.words) q (begun_dir c.mounts None w.words b xs makes k))
