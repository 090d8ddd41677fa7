-- The script of a create, a mkdir or a mail: when it asks its make it was answered a probe on the directory that it opened; and once the make
-- is answered it asks none.
use Rattle.std.proofs.Common.{◌≡◌, ℕ, Bool, true, false, cond, List, [], ◌∷◌, ◌++◌, Option, Some, None, refl, sym, ◌∙◌, ap, subst, inl, inr}
use Rattle.locus_ids.specs.declared.ids.CallId.{CallId}
use Rattle.locus_ids.specs.declared.config.Config.{Config}
use Rattle.locus_ids.specs.declared.config.Mount.{Mount}
use Rattle.locus_ids.specs.declared.ids.EpochId.{EpochId}
use Rattle.locus_ids.specs.declared.ids.FileId.{FileId}
use Rattle.locus_ids.specs.declared.ids.Kind.{Kind}
use Rattle.locus_ids.specs.declared.ids.Kind.TheVariants as kind
use Rattle.locus_ids.specs.declared.ids.Serial.{Serial}
use Rattle.locus_ids.specs.declared.refusal.Refusal.TheVariants as refusal
use Rattle.locus_ids.specs.declared.sites.Sites.{Sites}
use Rattle.trace_book.specs.Messages.{message_name}
use Rattle.trace_book.specs.Names.{but_last, components, last_of}
use Rattle.trace_book.specs.declared.call.Call.{Call}
use Rattle.trace_book.specs.declared.call.Call.TheVariants as call
use Rattle.trace_book.specs.declared.descriptor.Beginning.{Beginning}
use Rattle.trace_book.specs.declared.descriptor.Beginning.TheVariants as begins
use Rattle.trace_book.specs.declared.operation.Op.TheVariants as op
use Rattle.trace_book.specs.declared.operation.Outcome.{Outcome}
use Rattle.trace_book.specs.declared.reply.Reply.{Reply}
use Rattle.trace_book.specs.declared.reply.Reply.TheVariants as reply
use Rattle.call_rules.specs.Mailing.{tells_name}
use Rattle.call_rules.specs.Making.{after_probe, opens_dir, probes}
use Rattle.call_rules.specs.Scripts.{begun_wants, named_wants, path_wants, where_packed}
use Rattle.call_rules.specs.Walks.{mounted_in, passes, root_of, walk, walked}
use Rattle.call_rules.specs.Words.{is_badly_named}
use Rattle.call_rules.specs.declared.answer.Answer.{Answer}
use Rattle.call_rules.specs.declared.answer.Answer.TheVariants as answer
use Rattle.call_rules.specs.declared.want.Want.{Want}
use Rattle.call_rules.specs.declared.want.Want.TheVariants as want
use Rattle.tree_model.specs.Folds.{Trace}
use Rattle.tree_model.specs.declared.accepted.Waiting.{Waiting}
use Rattle.tree_laws.specs.of_lawful_trace.Progress.{is_packed_in}
use Rattle.tree_laws.specs.Calls.{script_as}
use Rattle.tree_laws.proofs.Awaiting.{OpensIt}
use Rattle.tree_laws.proofs.Holding.{Script}
use Rattle.store_laws.proofs.OneTree.RemoveScripts.{Along, DirSo, IsOr, along_more, along_same, goes, goes_walked, or_more, packed_is}
use Rattle.store_laws.proofs.OneTree.MakeCallOthers.{NotMake, give_up_one, made_none, others_none, reopens_none, uses_none}

-- after these answers the script asks a make in this group: the last of them is that of a probe on the directory that it has opened
-- there, and after more answers it asks no make
pub record Making (k : Script) (xs : List Answer) (group : ℕ) : Type 0 where
  pub before : List Answer
  pub inst : Serial
  pub name : List ℕ
  pub result : Outcome
  pub dir : FileId
  pub number : ℕ
  pub answers_are : xs ≡ before ++ answer.Did result ∷ []
  pub probes : k before ≡ want.Do inst (op.Probe name)
  pub on_dir : Along (DirSo inst dir number) k before
  pub group_is : dir.group ≡ group
  pub once : (a : Answer) (ys : List Answer) → NotMake (k (xs ++ a ∷ ys))

pub no_make : (w : Want) (group : ℕ) (kd : Kind) (sites : Option Sites) → NotMake w → w ≡ want.Make group kd sites → ⊥
no_make w group kd sites none e = subst NotMake e none

make_group : (a b : ℕ) (j k : Kind) (s t : Option Sites) → want.Make a j s ≡ want.Make b k t → a ≡ b
make_group a b j k s t e = cc

-- ---- the end of the script ----

module _ (dir : FileId) (reached name : List ℕ) (kd : Kind) (sites : Option Sites) (bytes : List ℕ) (tells : ℕ → Reply) (group : ℕ) (k : Kind) (set : Option Sites) where
  abbrev on : Script
  on = opens_dir reached (λ q rest. probes q dir.group name kd sites bytes tells rest) dir kind.Dir

  own : (p : Serial) (ino : ℕ) (o : Outcome) → Making on (answer.Opened p ino ∷ answer.Did o ∷ []) dir.group
  own p ino o = record {
    before = answer.Opened p ino ∷ [];
    inst = p;
    name = name;
    result = o;
    dir = dir;
    number = ino;
    answers_are = refl;
    probes = refl;
    on_dir = (record { opens = λ e. (inl refl, refl) }, tt);
    group_is = refl;
    once = λ a ys. made_none p dir.group name kd sites bytes tells a ys;
  }

  probed_end : (p : Serial) (ino : ℕ) (o : Outcome) (xs : List Answer) → after_probe p dir.group name kd sites bytes tells xs ≡ want.Make group k set → Making on (answer.Opened p ino ∷ answer.Did o ∷ xs) group
  probed_end p ino o [] e = subst (Making on (answer.Opened p ino ∷ answer.Did o ∷ [])) (make_group dir.group group kd k sites set e) (own p ino o)
  probed_end p ino o (a ∷ xs) e = absurd (no_make _ group k set (made_none p dir.group name kd sites bytes tells a xs) e)

  probes_end : (p : Serial) (ino : ℕ) (xs : List Answer) → probes p dir.group name kd sites bytes tells xs ≡ want.Make group k set → Making on (answer.Opened p ino ∷ xs) group
  probes_end p ino [] e = absurd (no_make _ group k set tt e)
  probes_end p ino (answer.Did o ∷ rest) e = probed_end p ino o rest e
  probes_end p ino (answer.Refused why ∷ rest) e = absurd (no_make _ group k set (give_up_one p why rest) e)
  probes_end p ino (_ ∷ rest) e = absurd (no_make _ group k set tt e)

  opens_end : (at : Kind) (xs : List Answer) → opens_dir reached (λ q rest. probes q dir.group name kd sites bytes tells rest) dir at xs ≡ want.Make group k set → Making (opens_dir reached (λ q rest. probes q dir.group name kd sites bytes tells rest) dir at) xs group
  opens_end kind.File xs e = absurd (no_make _ group k set tt e)
  opens_end kind.Dir [] e = absurd (no_make _ group k set tt e)
  opens_end kind.Dir (answer.Opened p ino ∷ rest) e = probes_end p ino rest e
  opens_end kind.Dir (answer.Refused why ∷ rest) e = absurd (no_make _ group k set tt e)
  opens_end kind.Dir (_ ∷ rest) e = absurd (no_make _ group k set tt e)

-- ---- the walk before it ----

-- an answer that opens nothing
making_after : (k : Script) (a : Answer) (xs : List Answer) (group : ℕ) → ((t : Serial) → OpensIt a t → ⊥) → Making (λ ys. k (a ∷ ys)) xs group → Making k (a ∷ xs) group
making_after k a xs group none m = record {
  before = a ∷ m.before;
  inst = m.inst;
  name = m.name;
  result = m.result;
  dir = m.dir;
  number = m.number;
  answers_are = ap (λ (ys : List Answer). a ∷ ys) m.answers_are;
  probes = m.probes;
  on_dir = (record { opens = λ e. absurd (none m.inst e) }, m.on_dir);
  group_is = m.group_is;
  once = m.once;
}

-- a script that is the same
making_same : (k l : Script) → ((ys : List Answer) → k ys ≡ l ys) → (xs : List Answer) (group : ℕ) → Making k xs group → Making l xs group
making_same k l same xs group m = record {
  before = m.before;
  inst = m.inst;
  name = m.name;
  result = m.result;
  dir = m.dir;
  number = m.number;
  answers_are = m.answers_are;
  probes = sym (same m.before) ∙ m.probes;
  on_dir = along_same (DirSo m.inst m.dir m.number) k l same m.before m.on_dir;
  group_is = m.group_is;
  once = λ a ys. subst NotMake (same (xs ++ a ∷ ys)) (m.once a ys);
}

module _ (mounts : List Mount) (after : FileId → Kind → Script) (group : ℕ) (k : Kind) (set : Option Sites) (each : (f : FileId) (kd : Kind) (ys : List Answer) → after f kd ys ≡ want.Make group k set → Making (after f kd) ys group) where
  walk_making : (cs : List (List ℕ)) (reached : List ℕ) (at : FileId) (kd : Kind) (xs : List Answer) → goes after (walk mounts cs reached at kd xs) ≡ want.Make group k set → Making (λ ys. goes after (walk mounts cs reached at kd ys)) xs group
  walk_making [] reached at kd xs e = each at kd xs e
  walk_making (c ∷ cs) reached at kind.File xs e = absurd (no_make _ group k set tt e)
  walk_making (c ∷ cs) reached at kind.Dir xs e = over (λ f kd ys q. walk_making cs c f kd ys q) (mounted_in mounts at c) xs e
    where
      over : ((f : FileId) (kd : Kind) (ys : List Answer) → goes after (walk mounts cs c f kd ys) ≡ want.Make group k set → Making (λ zs. goes after (walk mounts cs c f kd zs)) ys group) →
          (m : Option ℕ) (ys : List Answer) → goes after (passes (walk mounts cs c) at c m ys) ≡ want.Make group k set → Making (λ zs. goes after (passes (walk mounts cs c) at c m zs)) ys group
      over later (Some g) ys q = later (root_of g) kind.Dir ys q
      over later None [] q = absurd (no_make _ group k set tt q)
      over later None (answer.Entered m kd ∷ rest) q = making_after _ (answer.Entered m kd) rest group (λ t o. o) (later (record { group = at.group; ino = m }) kd rest q)
      over later None (answer.Refused why ∷ rest) q = absurd (no_make _ group k set tt q)
      over later None (_ ∷ rest) q = absurd (no_make _ group k set tt q)

-- what makes a file of this name in the directory to which these components lead
module _ (mounts : List Mount) (names : List (List ℕ)) (name : List ℕ) (kd : Kind) (sites : Option Sites) (bytes : List ℕ) (tells : ℕ → Reply) where
  abbrev after : FileId → Kind → Script
  after dir at rest = opens_dir (last_of names) (λ p ys. probes p dir.group name kd sites bytes tells ys) dir at rest

  box_making : (group : ℕ) (k : Kind) (set : Option Sites) (xs : List Answer) → walked mounts names xs after ≡ want.Make group k set → Making (λ ys. walked mounts names ys after) xs group
  box_making group k set xs e = making_same (λ ys. goes after (walk mounts names [] (root_of 0) kind.Dir ys)) (λ ys. walked mounts names ys after) (goes_walked mounts names after) xs group
      (walk_making mounts after group k set (λ f at ys q. opens_end f (last_of names) name kd sites bytes tells group k set at ys q) names [] (root_of 0) kind.Dir xs (goes_walked mounts names after xs ∙ e))

-- ---- the whole script ----

path_making : (mounts : List Mount) (free : Option ℕ) (id : CallId) (words : Call) (group : ℕ) (k : Kind) (set : Option Sites) (xs : List Answer) → path_wants mounts free id words xs ≡ want.Make group k set → Making (path_wants mounts free id words) xs group
path_making mounts free id (call.Create path sites) group k set xs e = box_making mounts (but_last (components path)) (last_of (components path)) kind.File sites [] reply.Made group k set xs e
path_making mounts free id (call.MakeDir path) group k set xs e = box_making mounts (but_last (components path)) (last_of (components path)) kind.Dir None [] reply.Made group k set xs e
path_making mounts free id (call.Mail path bytes) group k set xs e = box_making mounts (components path) (message_name id) kind.File None bytes (tells_name (message_name id)) group k set xs e
path_making mounts free id words group k set xs e = absurd (no_make _ group k set (others_none mounts free id words (λ r. r) xs) e)

begun_making : (mounts : List Mount) (free : Option ℕ) (words : Call) (b : Beginning) (group : ℕ) (k : Kind) (set : Option Sites) (xs : List Answer) → begun_wants mounts free words b xs ≡ want.Make group k set → Making (begun_wants mounts free words b) xs group
begun_making mounts free words (begins.Denied why) group k set xs e = absurd (no_make _ group k set tt e)
begun_making mounts free words (begins.Uses epoch inst) group k set xs e = absurd (no_make _ group k set (uses_none words inst xs) e)
begun_making mounts free words (begins.Walks id) group k set xs e = path_making mounts free id words group k set xs e
begun_making mounts free words (begins.Reopens kept last) group k set xs e = absurd (no_make _ group k set (reopens_none words kept last xs) e)
begun_making mounts free words begins.Frees group k set xs e = absurd (no_make _ group k set tt e)

named_making : (mounts : List Mount) (free : Option ℕ) (words : Call) (b : Beginning) (group : ℕ) (k : Kind) (set : Option Sites) (xs : List Answer) → named_wants mounts free words b xs ≡ want.Make group k set → Making (named_wants mounts free words b) xs group
named_making mounts free words b group k set xs e = over (is_badly_named mounts words) e
  where
    over : (x : Bool) → cond x (want.Give (reply.No refusal.BadName)) (begun_wants mounts free words b xs) ≡ want.Make group k set → Making (λ ys. cond x (want.Give (reply.No refusal.BadName)) (begun_wants mounts free words b ys)) xs group
    over true q = absurd (no_make _ group k set tt q)
    over false q = begun_making mounts free words b group k set xs q

-- by whether groups have packs
none_packed : (p : ℕ → Bool) (w : Want) → NotMake w → NotMake (where_packed p w)
none_packed p w none = over (packed_is p w)
  where
    over : IsOr (where_packed p w) w → NotMake (where_packed p w)
    over (inl e) = subst NotMake (sym e) none
    over (inr e) = subst NotMake (sym e) tt

make_unpacked : (p : ℕ → Bool) (w : Want) (group : ℕ) (k : Kind) (set : Option Sites) → where_packed p w ≡ want.Make group k set → w ≡ want.Make group k set
make_unpacked p w group k set e = over (packed_is p w)
  where
    over : IsOr (where_packed p w) w → w ≡ want.Make group k set
    over (inl q) = sym q ∙ e
    over (inr q) = absurd (no_make _ group k set tt (sym q ∙ e))

making_packed : (p : ℕ → Bool) (k : Script) (xs : List Answer) (group : ℕ) → Making k xs group → Making (λ ys. where_packed p (k ys)) xs group
making_packed p k xs group m = record {
  before = m.before;
  inst = m.inst;
  name = m.name;
  result = m.result;
  dir = m.dir;
  number = m.number;
  answers_are = m.answers_are;
  probes = ap (where_packed p) m.probes;
  on_dir = along_more (DirSo m.inst m.dir m.number) (where_packed p) (λ w a z. record { opens = λ o. (or_more p w _ (z.opens o).0, (z.opens o).1) }) k m.before m.on_dir;
  group_is = m.group_is;
  once = λ a ys. none_packed p (k (xs ++ a ∷ ys)) (m.once a ys);
}

-- what a call was answered that asks a make
pub script_making : (c : Config) (before : Trace) (w : Option Waiting) (b : Option Beginning) (group : ℕ) (k : Kind) (set : Option Sites) (xs : List Answer) → script_as c before w b None xs ≡ want.Make group k set → Making (script_as c before w b None) xs group
script_making c before None b group k set xs e = absurd (no_make _ group k set tt e)
script_making c before (Some w) None group k set xs e = absurd (no_make _ group k set tt e)
script_making c before (Some w) (Some b) group k set xs e = making_packed (is_packed_in c before w.epoch) (named_wants c.mounts None w.words b) xs group (named_making c.mounts None w.words b group k set xs (make_unpacked (is_packed_in c before w.epoch) (named_wants c.mounts None w.words b xs) group k set e))

-- a call on a descriptor asks none
pub uses_make : (c : Config) (before : Trace) (w : Option Waiting) (e : EpochId) (i : Serial) (xs : List Answer) → NotMake (script_as c before w (Some (begins.Uses e i)) None xs)
uses_make c before None e i xs = tt
uses_make c before (Some w) e i xs = none_packed (is_packed_in c before w.epoch) (named_wants c.mounts None w.words (begins.Uses e i) xs) (over (is_badly_named c.mounts w.words))
  where
    over : (x : Bool) → NotMake (cond x (want.Give (reply.No refusal.BadName)) (begun_wants c.mounts None w.words (begins.Uses e i) xs))
    over true = tt
    over false = uses_none w.words i xs
