-- An instance that runs here is the tree's while others tell: nothing of theirs changes it or ends it, and what its next version
-- follows stays.
use Rattle.std.proofs.Common.{◌≡◌, ℕ, ◌==◌, not, Bool, true, false, cond, ◌&&◌, List, Some, refl, sym, ◌∙◌, ap, subst, ◌⊎◌, inl, inr}
use Rattle.std.specs.Option.{is_none}
use Rattle.role_steps.proofs.of_plain_facts.Numbers.{equal}
use Rattle.role_steps.proofs.of_plain_facts.Options.{some_same}
use Rattle.role_steps.proofs.of_plain_facts.Tests.{true_false}
use Rattle.locus_ids.specs.declared.config.Config.{Config}
use Rattle.locus_ids.specs.declared.ids.EpochId.{EpochId}
use Rattle.locus_ids.specs.declared.ids.FileId.{FileId}
use Rattle.locus_ids.specs.declared.ids.Mode.{Mode}
use Rattle.locus_ids.specs.declared.ids.Mode.TheVariants as mode
use Rattle.locus_ids.specs.declared.ids.Serial.{Serial}
use Rattle.locus_ids.specs.declared.ids.Stamp.{Stamp}
use Rattle.commit_graph.specs.Grants.{is_read}
use Rattle.commit_graph.specs.Versions.{is_in, same_file}
use Rattle.trace_book.specs.declared.record.Record.{Record}
use Rattle.trace_book.specs.declared.record.Record.TheVariants as says
use Rattle.role_steps.specs.Views.{Frame, Told, Shown}
use Rattle.role_steps.specs.declared.instances.Instance.{Instance}
use Rattle.the_run.specs.Worlds.{Line}
use Rattle.tree_model.specs.declared.instance.Instance.{Instance as Open}
use Rattle.tree_model.specs.Folds.{Trace}
use Rattle.tree_model.specs.Histories.{history}
use Rattle.tree_model.specs.State.{is_named, is_writer, instance_in}
use Rattle.tree_model.specs.Tree.{tree_of, kept_in}
use Rattle.tree_model.specs.Working.{merges, list_of, parents_of}
use Rattle.lawful_trace.specs.TreeRows.{granted_group}
use Rattle.tree_laws.specs.Printed.{entries, onto_entries}
use Rattle.tree_laws.specs.Following.{MayTell, IsFollowed}
use Rattle.tree_laws.specs.Frames.{IsFresh}
use Rattle.tree_laws.specs.Instances.{instance_now, IsOpenAt, Stands}
use Rattle.tree_laws.specs.Past.{WasShut}
use Rattle.tree_laws.specs.Stores.{WorksAs}
use Rattle.tree_laws.proofs.CarriedLooks.{More}
use Rattle.tree_laws.proofs.Grants.{open_named}
use Rattle.tree_laws.proofs.Kinship.{StaysOpen, Ends, open_stays}
use Rattle.tree_laws.proofs.Opened.{EndsIt, ActsOn, CommitsOn, GoesOn}
use Rattle.tree_laws.proofs.Owing.{InGroup, in_group, found_every}
use Rattle.tree_laws.proofs.Rows.{followed_rows}
use Rattle.tree_laws.specs.Orders.Joining.{PacksAreOfSites}
use Rattle.tree_laws.specs.Orders.Keeping.{PassesBy}
use Rattle.tree_laws.proofs.Orders.Keeping.{versions_kept}
use Rattle.tree_laws.proofs.Orders.Standing.{same_file_eq}
use Rattle.store_laws.specs.Aside.{IsAside, RecordAside}

-- ---- the group of what is open ----

pub open_group : (c : Config) (trace : List Line) (e : EpochId) (i : Serial) (x : Open) → instance_now c trace e i ≡ Some x → x.grant.file.group ≡ granted_group (entries trace) e i
open_group c trace e i x k = found_every (InGroup (granted_group (entries trace) e i)) (is_named i) (tree_of c e (granted_group (entries trace) e i) (entries trace)).instances x k (in_group c e (granted_group (entries trace) e i) (entries trace))

-- it is found in the tree of its file's group
pub found_in : (c : Config) (trace : List Line) (e : EpochId) (i : Serial) (x : Open) (g : ℕ) → instance_now c trace e i ≡ Some x → x.grant.file.group ≡ g → instance_in (tree_of c e g (entries trace)) i ≡ Some x
found_in c trace e i x g k is = subst (λ (y : ℕ). instance_in (tree_of c e y (entries trace)) i ≡ Some x) (sym (open_group c trace e i x k) ∙ is) k

-- ---- what may not come ----

-- what releases it has had it shut
shut_first : (c : Config) (older : List Line) (e : EpochId) (me : ℕ) (i : Serial) (x : Open) → IsOpenAt c older e i me x → (r : Record) → MayTell c older (Shown r) → EndsIt e i r → WasShut older me e i
shut_first c older e me i x o (says.Release at inst file stamp) may ends = subst (λ (s : ℕ). WasShut older s e i) place shut
  where
    found : instance_now c older e i ≡ Some may.in_time.at
    found = subst (λ (j : Serial). instance_now c older e j ≡ Some may.in_time.at) ends.1 (subst (λ (y : EpochId). instance_now c older y inst ≡ Some may.in_time.at) ends.0 may.in_time.open_at.found)

    place : may.in_time.at.grant.ss ≡ me
    place = ap (λ (y : Open). y.grant.ss) (some_same may.in_time.at x (sym found ∙ o.found)) ∙ o.place

    shut : WasShut older may.in_time.at.grant.ss e i
    shut = subst (λ (j : Serial). WasShut older may.in_time.at.grant.ss e j) ends.1 (subst (λ (y : EpochId). WasShut older may.in_time.at.grant.ss y inst) ends.0 may.in_time.shut)
shut_first c older e me i x o _ may ends = absurd ends

never_ends : (c : Config) (older : List Line) (e : EpochId) (me : ℕ) (i : Serial) (x : Open) → IsOpenAt c older e i me x → (WasShut older me e i → ⊥) → (z : Told) → MayTell c older z → Ends e i z → ⊥
never_ends c older e me i x o runs (Shown r) may ends = runs (shut_first c older e me i x o r may ends)
never_ends c older e me i x o runs _ may ends = absurd ends

acts_aside : (c : Config) (older : List Line) (f : Frame) (i : Instance) (x y : Open) → (r : Record) → RecordAside c older f i r →
    ActsOn (history c (entries older)) (tree_of c f.epoch (granted_group (entries older) f.epoch i.inst) (entries older)) f.epoch i.inst x y r → ⊥
acts_aside c older f i x y (says.Act at inst n what result) aside a = aside a.0.0 a.0.1
acts_aside c older f i x y _ aside a = absurd a

pub writes_at : (f : FileId) (s : ℕ) (x : Open) → is_writer f s x ≡ true → (x.grant.file ≡ f) × (x.grant.ss ≡ s)
writes_at f s x e = (
  same_file_eq x.grant.file f (first (same_file x.grant.file f) ((x.grant.ss == s) && not (is_read x.grant.mode)) e),
  equal x.grant.ss s (first (x.grant.ss == s) (not (is_read x.grant.mode)) (second (same_file x.grant.file f) ((x.grant.ss == s) && not (is_read x.grant.mode)) e)),
)
  where
    first : (a b : Bool) → a && b ≡ true → a ≡ true
    first true b k = refl
    first false b k = absurd (true_false (sym k))

    second : (a b : Bool) → a && b ≡ true → b ≡ true
    second true b k = k
    second false b k = absurd (true_false (sym k))

commits_aside : (c : Config) (older : List Line) (f : Frame) (i : Instance) (x y : Open) → WorksAs c older f i x → (r : Record) → RecordAside c older f i r → CommitsOn (tree_of c f.epoch (granted_group (entries older) f.epoch i.inst) (entries older)) x y r → ⊥
commits_aside c older f i x y w (says.Commit g s stamp parents content) aside a = aside x w (sym (writes_at g s x a.1).1 ∙ w.open_at.place) (sym (writes_at g s x a.1).0 ∙ w.file_is)
commits_aside c older f i x y w _ aside a = absurd a

-- ---- it goes on as it is ----

-- the instance that is open here, and not shut, is open still, as it was
pub still_open : (c : Config) (n : ℕ) (x : Told) (older : List Line) → MayTell c older x → (f : Frame) (i : Instance) (y : Open) → IsAside c older f i x → WorksAs c older f i y → (WasShut older f.me f.epoch i.inst → ⊥) → IsOpenAt c (More n x older) f.epoch i.inst f.me y
still_open c n x older may f i y aside w runs = over x may aside (open_stays c older n x f.epoch i.inst y may (open_named c older f.epoch i.inst y w.open_at.found) w.open_at.found)
  where
    goes : (r : Record) → RecordAside c older f i r → (s : StaysOpen c older n (Shown r) f.epoch i.inst y) → GoesOn (history c (entries older)) (tree_of c f.epoch (granted_group (entries older) f.epoch i.inst) (entries older)) f.epoch i.inst y s.new r → s.new ≡ y
    goes r aside s (inl same) = same
    goes r aside s (inr (inl acts)) = absurd (acts_aside c older f i y s.new r aside acts)
    goes r aside s (inr (inr commits)) = absurd (commits_aside c older f i y s.new w r aside commits)

    same_new : (z : Told) → IsAside c older f i z → (s : StaysOpen c older n z f.epoch i.inst y) → s.new ≡ y
    same_new (Shown r) aside s = goes r aside s s.goes
    same_new _ aside s = s.goes

    over : (z : Told) → MayTell c older z → IsAside c older f i z → StaysOpen c older n z f.epoch i.inst y ⊎ Ends f.epoch i.inst z → IsOpenAt c (More n z older) f.epoch i.inst f.me y
    over z m aside (inl s) = record { found = s.found ∙ ap Some (same_new z aside s); place = w.open_at.place }
    over z m aside (inr ends) = absurd (never_ends c older f.epoch f.me i.inst y w.open_at runs z m ends)

-- ---- what its next version follows ----

fresh_stamp : (c : Config) (older : List Line) (f : FileId) (s : Stamp) → (Stands c older f s → ⊥) → is_in (history c (entries older)) f s ≡ false
fresh_stamp c older f s new = over (is_in (history c (entries older)) f s) refl
  where
    over : (b : Bool) → is_in (history c (entries older)) f s ≡ b → is_in (history c (entries older)) f s ≡ false
    over true e = absurd (new e)
    over false e = e

passes_by : (c : Config) (older : List Line) (e : EpochId) (f : FileId) (i : Serial) (r : Record) → IsFresh c older (Shown r) → (EndsIt e i r → ⊥) → PassesBy c (entries older) e f i r
passes_by c older e f i (says.Commit g site stamp parents content) fresh ends = fresh_stamp c older g stamp fresh
passes_by c older e f i (says.Release at inst g stamp) fresh ends = λ a b. ends (a, b)
passes_by c older e f i _ fresh ends = tt

-- while it is open, not only to read, and not released, what is kept of its file stays
pub kept_still : (c : Config) (n : ℕ) (x : Told) (older : List Line) → PacksAreOfSites c → IsFollowed c older → MayTell c older x → IsFresh c older x → (e : EpochId) (i : Serial) (y : Open) → instance_now c older e i ≡ Some y → is_read y.grant.mode ≡ false → (Ends e i x → ⊥) →
    kept_in c (onto_entries n x (entries older)) e y.grant.file ≡ kept_in c (entries older) e y.grant.file
kept_still c n (Shown r) older few h may fresh e i y found writes ends = versions_kept c n r (entries older) few may.row (followed_rows c older h) e y.grant.file i y
    (record { found = found_in c older e i y y.grant.file.group found refl; file_is = refl; writes = writes }) (passes_by c older e y.grant.file i r fresh ends)
kept_still c n _ older few h may fresh e i y found writes ends = refl

merges_writes : (m : Mode) → merges m ≡ true → is_read m ≡ false
merges_writes mode.Read e = absurd (true_false (sym e))
merges_writes mode.Write e = refl
merges_writes mode.Resolve e = refl
merges_writes mode.Mend e = refl
merges_writes mode.Make e = refl

-- the parents of its next version, where what is kept stays
pub parents_same : (c : Config) (before after : Trace) (e : EpochId) (y : Open) → (is_read y.grant.mode ≡ false → kept_in c after e y.grant.file ≡ kept_in c before e y.grant.file) → (g : ℕ) → y.grant.file.group ≡ g →
    parents_of (history c after) (tree_of c e g after) y ≡ parents_of (history c before) (tree_of c e g before) y
parents_same c before after e y kept g is = subst (λ (k : ℕ). parents_of (history c after) (tree_of c e k after) y ≡ parents_of (history c before) (tree_of c e k before) y) is (over (merges y.grant.mode) (is_none y.work.committed) refl)
  where
    over : (a b : Bool) → merges y.grant.mode ≡ a → cond (a && b) (kept_in c after e y.grant.file) (list_of y.work.last) ≡ cond (a && b) (kept_in c before e y.grant.file) (list_of y.work.last)
    over true true k = kept (merges_writes y.grant.mode k)
    over true false k = refl
    over false b k = refl

-- ---- the whole ----

pub works_stay : (c : Config) (n : ℕ) (x : Told) (older : List Line) → PacksAreOfSites c → IsFollowed c older → MayTell c older x → IsFresh c older x → (f : Frame) (i : Instance) (y : Open) → IsAside c older f i x → (WasShut older f.me f.epoch i.inst → ⊥) → WorksAs c older f i y → WorksAs c (More n x older) f i y
works_stay c n x older few h may fresh f i y aside runs w = record {
  open_at = still_open c n x older may f i y aside w runs;
  file_is = w.file_is;
  mode_is = w.mode_is;
  work_is = w.work_is;
  parents_are = w.parents_are ∙ sym (parents_same c (entries older) (entries (More n x older)) f.epoch y
      (λ writes. kept_still c n x older few h may fresh f.epoch i.inst y w.open_at.found writes (never_ends c older f.epoch f.me i.inst y w.open_at runs x may)) i.file.group (ap (λ (k : FileId). k.group) w.file_is));
}
