-- The script of a call that removes a name: the name and the number are those that it has found in the directory, of which it asks nothing
-- then that could change it.
use Rattle.std.proofs.Common.{◌≡◌, ℕ, Bool, true, false, cond, List, [], ◌∷◌, ◌++◌, Option, Some, None, refl, sym, ◌∙◌, ap, subst, inl, inr}
use Rattle.locus_ids.specs.declared.ids.CallId.{CallId}
use Rattle.locus_ids.specs.declared.config.Config.{Config}
use Rattle.locus_ids.specs.declared.config.Mount.{Mount}
use Rattle.locus_ids.specs.declared.ids.FileId.{FileId}
use Rattle.locus_ids.specs.declared.ids.Kind.{Kind}
use Rattle.locus_ids.specs.declared.ids.Kind.TheVariants as kind
use Rattle.locus_ids.specs.declared.ids.Serial.{Serial}
use Rattle.locus_ids.specs.declared.refusal.Refusal.TheVariants as refusal
use Rattle.trace_book.specs.Names.{but_last, components, last_of, plain_name}
use Rattle.trace_book.specs.declared.call.Call.{Call}
use Rattle.trace_book.specs.declared.call.Call.TheVariants as call
use Rattle.trace_book.specs.declared.descriptor.Beginning.{Beginning}
use Rattle.trace_book.specs.declared.descriptor.Beginning.TheVariants as begins
use Rattle.trace_book.specs.declared.operation.Op.{Op}
use Rattle.trace_book.specs.declared.operation.Op.TheVariants as op
use Rattle.trace_book.specs.declared.operation.Outcome.{Outcome}
use Rattle.trace_book.specs.declared.operation.Outcome.TheVariants as outcome
use Rattle.trace_book.specs.declared.reply.Reply.TheVariants as reply
use Rattle.call_rules.specs.Making.{changes_dir, opens_dir}
use Rattle.call_rules.specs.Removing.{by_kind, empties, finds, opens_target, removes}
use Rattle.call_rules.specs.Scripts.{begun_wants, named_wants, path_wants, where_packed}
use Rattle.call_rules.specs.Walks.{mounted_in, passes, root_of, walk}
use Rattle.call_rules.specs.Words.{is_badly_named}
use Rattle.call_rules.specs.declared.answer.Answer.{Answer}
use Rattle.call_rules.specs.declared.answer.Answer.TheVariants as answer
use Rattle.call_rules.specs.declared.want.Want.{Want}
use Rattle.call_rules.specs.declared.want.Want.TheVariants as want
use Rattle.tree_model.specs.Folds.{Trace}
use Rattle.tree_model.specs.declared.accepted.Waiting.{Waiting}
use Rattle.lawful_trace.specs.Progress.{is_packed_in}
use Rattle.tree_laws.specs.Calls.{script_as}
use Rattle.tree_laws.proofs.Holding.{Script}
use Rattle.store_laws.proofs.OneTree.RemoveOthers.{NotRemove, close_all_none, give_up_one, give_up_two, others_none, uses_none, reopens_none}
use Rattle.store_laws.proofs.OneTree.RemoveScripts.{Along, IsOr, along_more, along_same, goes, goes_walked, packed_is}

-- it leaves the content of a directory
abbrev pub Leaves : Op → Type 0
Leaves (op.Find component) = Unit {0}
Leaves op.Empty = Unit {0}
Leaves _ = ⊥

-- of this instance nothing else is asked
abbrev pub LeavesOn : Serial → Want → Type 0
LeavesOn p (want.Do j o) = j ≡ p → Leaves o
LeavesOn p _ = Unit {0}

abbrev pub LeftSo : Serial → Want → Answer → Type 0
LeftSo p w a = LeavesOn p w

-- after these answers the script removes the name of this number: it was found by a component with this plain name
pub record Finding (k : Script) (xs : List Answer) (p : Serial) (name : List ℕ) (ino : ℕ) : Type 0 where
  pub before : List Answer
  pub component : List ℕ
  pub kind : Kind
  pub after : List Answer
  pub answers_are : xs ≡ before ++ answer.Did (outcome.Found ino kind) ∷ after
  pub finds : k before ≡ want.Do p (op.Find component)
  pub name_is : name ≡ plain_name component
  pub left : Along (LeftSo p) k xs

no_do : (w : Want) (i : Serial) (name : List ℕ) (ino : ℕ) → NotRemove w → w ≡ want.Do i (op.Remove name ino) → ⊥
no_do w i name ino none e = subst NotRemove e none

remove_is : (p i : Serial) (n name : List ℕ) (m ino : ℕ) → want.Do p (op.Remove n m) ≡ want.Do i (op.Remove name ino) → (p ≡ i) × ((n ≡ name) × (m ≡ ino))
remove_is p i n name m ino e = (cc, (cc, cc))

-- ---- the end of the script ----

module _ (dir : FileId) (reached component : List ℕ) (i : Serial) (name : List ℕ) (ino : ℕ) where
  abbrev on : Kind → Script
  on kd = opens_dir reached (λ q rest. finds kd q dir.group component rest) dir kind.Dir

  moved : (kd : Kind) (xs : List Answer) (p : Serial) (n : List ℕ) (m : ℕ) → (p ≡ i) × ((n ≡ name) × (m ≡ ino)) → Finding (on kd) xs p n m → Finding (on kd) xs i name ino
  moved kd xs p n m e r = subst (λ (j : Serial). Finding (on kd) xs j name ino) e.0 (subst (λ (y : List ℕ). Finding (on kd) xs p y ino) e.1.0 (subst (λ (y : ℕ). Finding (on kd) xs p n y) e.1.1 r))

  -- a file is removed
  file_so : (p t : Serial) (dino m x : ℕ) → Finding (on kind.File) (answer.Opened p dino ∷ answer.Did (outcome.Found m kind.File) ∷ answer.Opened t x ∷ []) p (plain_name component) m
  file_so p t dino m x = record { before = answer.Opened p dino ∷ []; component = component; kind = kind.File; after = answer.Opened t x ∷ []; answers_are = refl; finds = refl; name_is = refl; left = (tt, ((λ e. tt), (tt, tt))) }

  -- a directory is removed, once it is seen that it is empty
  dir_so : (p t : Serial) (dino m x : ℕ) (o : Outcome) → Finding (on kind.Dir) (answer.Opened p dino ∷ answer.Did (outcome.Found m kind.Dir) ∷ answer.Opened t x ∷ answer.Did o ∷ []) p (plain_name component) m
  dir_so p t dino m x o = record { before = answer.Opened p dino ∷ []; component = component; kind = kind.Dir; after = answer.Opened t x ∷ answer.Did o ∷ []; answers_are = refl; finds = refl; name_is = refl; left = (tt, ((λ e. tt), (tt, ((λ e. tt), tt)))) }

  file_end : (p t : Serial) (dino m x : ℕ) (xs : List Answer) → removes p t (plain_name component) m xs ≡ want.Do i (op.Remove name ino) → Finding (on kind.File) (answer.Opened p dino ∷ answer.Did (outcome.Found m kind.File) ∷ answer.Opened t x ∷ xs) i name ino
  file_end p t dino m x [] e = moved kind.File _ p (plain_name component) m (remove_is p i (plain_name component) name m ino e) (file_so p t dino m x)
  file_end p t dino m x (answer.Did o ∷ rest) e = absurd (no_do _ i name ino (close_all_none (p ∷ t ∷ []) reply.Done rest) e)
  file_end p t dino m x (answer.Refused why ∷ rest) e = absurd (no_do _ i name ino (give_up_two p t why rest) e)
  file_end p t dino m x (_ ∷ rest) e = absurd (no_do _ i name ino tt e)

  dir_end : (p t : Serial) (dino m x : ℕ) (o : Outcome) (xs : List Answer) → removes p t (plain_name component) m xs ≡ want.Do i (op.Remove name ino) → Finding (on kind.Dir) (answer.Opened p dino ∷ answer.Did (outcome.Found m kind.Dir) ∷ answer.Opened t x ∷ answer.Did o ∷ xs) i name ino
  dir_end p t dino m x o [] e = moved kind.Dir _ p (plain_name component) m (remove_is p i (plain_name component) name m ino e) (dir_so p t dino m x o)
  dir_end p t dino m x o (answer.Did z ∷ rest) e = absurd (no_do _ i name ino (close_all_none (p ∷ t ∷ []) reply.Done rest) e)
  dir_end p t dino m x o (answer.Refused why ∷ rest) e = absurd (no_do _ i name ino (give_up_two p t why rest) e)
  dir_end p t dino m x o (_ ∷ rest) e = absurd (no_do _ i name ino tt e)

  empties_end : (p t : Serial) (dino m x : ℕ) (xs : List Answer) → empties kind.Dir p t (plain_name component) m xs ≡ want.Do i (op.Remove name ino) → Finding (on kind.Dir) (answer.Opened p dino ∷ answer.Did (outcome.Found m kind.Dir) ∷ answer.Opened t x ∷ xs) i name ino
  empties_end p t dino m x [] e = absurd (no_do _ i name ino tt e)
  empties_end p t dino m x (answer.Did o ∷ rest) e = dir_end p t dino m x o rest e
  empties_end p t dino m x (answer.Refused why ∷ rest) e = absurd (no_do _ i name ino (give_up_two p t why rest) e)
  empties_end p t dino m x (_ ∷ rest) e = absurd (no_do _ i name ino tt e)

  file_target : (p : Serial) (dino m : ℕ) (xs : List Answer) → opens_target kind.File p dir.group (plain_name component) m xs ≡ want.Do i (op.Remove name ino) → Finding (on kind.File) (answer.Opened p dino ∷ answer.Did (outcome.Found m kind.File) ∷ xs) i name ino
  file_target p dino m [] e = absurd (no_do _ i name ino tt e)
  file_target p dino m (answer.Opened t x ∷ rest) e = file_end p t dino m x rest e
  file_target p dino m (answer.Refused why ∷ rest) e = absurd (no_do _ i name ino (give_up_one p why rest) e)
  file_target p dino m (_ ∷ rest) e = absurd (no_do _ i name ino tt e)

  dir_target : (p : Serial) (dino m : ℕ) (xs : List Answer) → opens_target kind.Dir p dir.group (plain_name component) m xs ≡ want.Do i (op.Remove name ino) → Finding (on kind.Dir) (answer.Opened p dino ∷ answer.Did (outcome.Found m kind.Dir) ∷ xs) i name ino
  dir_target p dino m [] e = absurd (no_do _ i name ino tt e)
  dir_target p dino m (answer.Opened t x ∷ rest) e = empties_end p t dino m x rest e
  dir_target p dino m (answer.Refused why ∷ rest) e = absurd (no_do _ i name ino (give_up_one p why rest) e)
  dir_target p dino m (_ ∷ rest) e = absurd (no_do _ i name ino tt e)

  kind_end : (kd found : Kind) (p : Serial) (dino m : ℕ) (xs : List Answer) → by_kind kd found p dir.group component m xs ≡ want.Do i (op.Remove name ino) → Finding (on kd) (answer.Opened p dino ∷ answer.Did (outcome.Found m found) ∷ xs) i name ino
  kind_end kind.File kind.File p dino m xs e = file_target p dino m xs e
  kind_end kind.Dir kind.Dir p dino m xs e = dir_target p dino m xs e
  kind_end kind.File kind.Dir p dino m xs e = absurd (no_do _ i name ino (give_up_one p _ xs) e)
  kind_end kind.Dir kind.File p dino m xs e = absurd (no_do _ i name ino (give_up_one p _ xs) e)

  finds_end : (kd : Kind) (p : Serial) (dino : ℕ) (xs : List Answer) → finds kd p dir.group component xs ≡ want.Do i (op.Remove name ino) → Finding (on kd) (answer.Opened p dino ∷ xs) i name ino
  finds_end kd p dino [] e = absurd (no_do _ i name ino tt e)
  finds_end kd p dino (answer.Did (outcome.Found m found) ∷ rest) e = kind_end kd found p dino m rest e
  finds_end kd p dino (answer.Refused why ∷ rest) e = absurd (no_do _ i name ino (give_up_one p why rest) e)
  finds_end kd p dino (_ ∷ rest) e = absurd (no_do _ i name ino tt e)

  opens_end : (kd at : Kind) (xs : List Answer) → opens_dir reached (λ q rest. finds kd q dir.group component rest) dir at xs ≡ want.Do i (op.Remove name ino) → Finding (opens_dir reached (λ q rest. finds kd q dir.group component rest) dir at) xs i name ino
  opens_end kd kind.File xs e = absurd (no_do _ i name ino tt e)
  opens_end kd kind.Dir [] e = absurd (no_do _ i name ino tt e)
  opens_end kd kind.Dir (answer.Opened p dino ∷ rest) e = finds_end kd p dino rest e
  opens_end kd kind.Dir (answer.Refused why ∷ rest) e = absurd (no_do _ i name ino tt e)
  opens_end kd kind.Dir (_ ∷ rest) e = absurd (no_do _ i name ino tt e)

-- ---- the walk before it ----

-- an answer to what is no operation
finding_after : (k : Script) (a : Answer) (xs : List Answer) (p : Serial) (name : List ℕ) (ino : ℕ) → LeavesOn p (k []) → Finding (λ ys. k (a ∷ ys)) xs p name ino → Finding k (a ∷ xs) p name ino
finding_after k a xs p name ino mild r = record { before = a ∷ r.before; component = r.component; kind = r.kind; after = r.after; answers_are = ap (λ (ys : List Answer). a ∷ ys) r.answers_are; finds = r.finds; name_is = r.name_is; left = (mild, r.left) }

finding_same : (k l : Script) → ((ys : List Answer) → k ys ≡ l ys) → (xs : List Answer) (p : Serial) (name : List ℕ) (ino : ℕ) → Finding k xs p name ino → Finding l xs p name ino
finding_same k l same xs p name ino r = record { before = r.before; component = r.component; kind = r.kind; after = r.after; answers_are = r.answers_are; finds = sym (same r.before) ∙ r.finds; name_is = r.name_is; left = along_same (LeftSo p) k l same xs r.left }

module _ (mounts : List Mount) (after : FileId → Kind → Script) (i : Serial) (name : List ℕ) (ino : ℕ) (each : (f : FileId) (kd : Kind) (ys : List Answer) → after f kd ys ≡ want.Do i (op.Remove name ino) → Finding (after f kd) ys i name ino) where
  walk_finding : (cs : List (List ℕ)) (reached : List ℕ) (at : FileId) (kd : Kind) (xs : List Answer) → goes after (walk mounts cs reached at kd xs) ≡ want.Do i (op.Remove name ino) → Finding (λ ys. goes after (walk mounts cs reached at kd ys)) xs i name ino
  walk_finding [] reached at kd xs e = each at kd xs e
  walk_finding (c ∷ cs) reached at kind.File xs e = absurd (no_do _ i name ino tt e)
  walk_finding (c ∷ cs) reached at kind.Dir xs e = over (λ f kd ys q. walk_finding cs c f kd ys q) (mounted_in mounts at c) xs e
    where
      over : ((f : FileId) (kd : Kind) (ys : List Answer) → goes after (walk mounts cs c f kd ys) ≡ want.Do i (op.Remove name ino) → Finding (λ zs. goes after (walk mounts cs c f kd zs)) ys i name ino) →
          (m : Option ℕ) (ys : List Answer) → goes after (passes (walk mounts cs c) at c m ys) ≡ want.Do i (op.Remove name ino) → Finding (λ zs. goes after (passes (walk mounts cs c) at c m zs)) ys i name ino
      over later (Some g) ys q = later (root_of g) kind.Dir ys q
      over later None [] q = absurd (no_do _ i name ino tt q)
      over later None (answer.Entered m kd ∷ rest) q = finding_after _ (answer.Entered m kd) rest i name ino tt (later (record { group = at.group; ino = m }) kd rest q)
      over later None (answer.Refused why ∷ rest) q = absurd (no_do _ i name ino tt q)
      over later None (_ ∷ rest) q = absurd (no_do _ i name ino tt q)

changes_finding : (mounts : List Mount) (path : List ℕ) (kd : Kind) (i : Serial) (name : List ℕ) (ino : ℕ) (xs : List Answer) → changes_dir mounts path (λ group p rest. finds kd p group (last_of (components path)) rest) xs ≡ want.Do i (op.Remove name ino) →
    Finding (changes_dir mounts path (λ group p rest. finds kd p group (last_of (components path)) rest)) xs i name ino
changes_finding mounts path kd i name ino xs e = finding_same (λ ys. goes after (walk mounts (but_last (components path)) [] (root_of 0) kind.Dir ys)) (changes_dir mounts path (λ group p rest. finds kd p group (last_of (components path)) rest)) (goes_walked mounts (but_last (components path)) after) xs i name ino
    (walk_finding mounts after i name ino (λ f at ys q. opens_end f (last_of (but_last (components path))) (last_of (components path)) i name ino kd at ys q) (but_last (components path)) [] (root_of 0) kind.Dir xs (goes_walked mounts (but_last (components path)) after xs ∙ e))
  where
    after : FileId → Kind → Script
    after dir at rest = opens_dir (last_of (but_last (components path))) (λ p ys. finds kd p dir.group (last_of (components path)) ys) dir at rest

-- ---- the whole script ----

path_finding : (mounts : List Mount) (free : Option ℕ) (id : CallId) (words : Call) (i : Serial) (name : List ℕ) (ino : ℕ) (xs : List Answer) → path_wants mounts free id words xs ≡ want.Do i (op.Remove name ino) → Finding (path_wants mounts free id words) xs i name ino
path_finding mounts free id (call.Unlink path) i name ino xs e = changes_finding mounts path kind.File i name ino xs e
path_finding mounts free id (call.RemoveDir path) i name ino xs e = changes_finding mounts path kind.Dir i name ino xs e
path_finding mounts free id words i name ino xs e = absurd (no_do _ i name ino (others_none mounts free id words (λ r. r) xs) e)

begun_finding : (mounts : List Mount) (free : Option ℕ) (words : Call) (b : Beginning) (i : Serial) (name : List ℕ) (ino : ℕ) (xs : List Answer) → begun_wants mounts free words b xs ≡ want.Do i (op.Remove name ino) → Finding (begun_wants mounts free words b) xs i name ino
begun_finding mounts free words (begins.Denied why) i name ino xs e = absurd (no_do _ i name ino tt e)
begun_finding mounts free words (begins.Uses epoch inst) i name ino xs e = absurd (no_do _ i name ino (uses_none words inst xs) e)
begun_finding mounts free words (begins.Walks id) i name ino xs e = path_finding mounts free id words i name ino xs e
begun_finding mounts free words (begins.Reopens kept last) i name ino xs e = absurd (no_do _ i name ino (reopens_none words kept last xs) e)
begun_finding mounts free words begins.Frees i name ino xs e = absurd (no_do _ i name ino tt e)

named_finding : (mounts : List Mount) (free : Option ℕ) (words : Call) (b : Beginning) (i : Serial) (name : List ℕ) (ino : ℕ) (xs : List Answer) → named_wants mounts free words b xs ≡ want.Do i (op.Remove name ino) → Finding (named_wants mounts free words b) xs i name ino
named_finding mounts free words b i name ino xs e = over (is_badly_named mounts words) e
  where
    over : (x : Bool) → cond x (want.Give (reply.No refusal.BadName)) (begun_wants mounts free words b xs) ≡ want.Do i (op.Remove name ino) → Finding (λ ys. cond x (want.Give (reply.No refusal.BadName)) (begun_wants mounts free words b ys)) xs i name ino
    over true q = absurd (no_do _ i name ino tt q)
    over false q = begun_finding mounts free words b i name ino xs q

-- by whether groups have packs
packed_leaves : (p : ℕ → Bool) (t : Serial) (w : Want) → LeavesOn t w → LeavesOn t (where_packed p w)
packed_leaves p t w h = over (packed_is p w)
  where
    over : IsOr (where_packed p w) w → LeavesOn t (where_packed p w)
    over (inl q) = subst (LeavesOn t) (sym q) h
    over (inr q) = subst (LeavesOn t) (sym q) tt

unpacked : (p : ℕ → Bool) (w : Want) (i : Serial) (o : Op) → where_packed p w ≡ want.Do i o → w ≡ want.Do i o
unpacked p w i o e = over (packed_is p w)
  where
    refused : want.Give (reply.No refusal.NoStorage) ≡ want.Do i o → ⊥
    refused e = cc

    over : IsOr (where_packed p w) w → w ≡ want.Do i o
    over (inl q) = sym q ∙ e
    over (inr q) = absurd (refused (sym q ∙ e))

-- what a call has found that removes a name
pub script_finding : (c : Config) (before : Trace) (w : Option Waiting) (b : Option Beginning) (i : Serial) (name : List ℕ) (ino : ℕ) (xs : List Answer) → script_as c before w b None xs ≡ want.Do i (op.Remove name ino) → Finding (script_as c before w b None) xs i name ino
script_finding c before None b i name ino xs e = absurd (no_do _ i name ino tt e)
script_finding c before (Some w) None i name ino xs e = absurd (no_do _ i name ino tt e)
script_finding c before (Some w) (Some b) i name ino xs e = record {
  before = r.before;
  component = r.component;
  kind = r.kind;
  after = r.after;
  answers_are = r.answers_are;
  finds = ap (where_packed (is_packed_in c before w.epoch)) r.finds;
  name_is = r.name_is;
  left = along_more (LeftSo i) (where_packed (is_packed_in c before w.epoch)) (λ v a z. packed_leaves (is_packed_in c before w.epoch) i v z) (named_wants c.mounts None w.words b) xs r.left;
}
  where
    r : Finding (named_wants c.mounts None w.words b) xs i name ino
    r = named_finding c.mounts None w.words b i name ino xs (unpacked (is_packed_in c before w.epoch) (named_wants c.mounts None w.words b xs) i (op.Remove name ino) e)
