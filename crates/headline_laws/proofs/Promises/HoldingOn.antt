-- What a site holds only rises, so that each of its commits stays under it.
use Rattle.std.proofs.Common.{◌≡◌, ℕ, ◌==◌, Bool, true, false, cond, ◌&&◌, ◌||◌, List, [], ◌∷◌, Some, refl, sym, ◌∙◌, ap, subst, inl, inr}
use Rattle.role_steps.proofs.of_plain_facts.Numbers.{equal, equal_self}
use Rattle.role_steps.proofs.of_plain_facts.Tests.{and_second, and_true, or_first}
use Rattle.std.specs.List.{list_any}
use Rattle.locus_ids.specs.declared.config.Config.{Config}
use Rattle.locus_ids.specs.declared.ids.EpochId.{EpochId}
use Rattle.locus_ids.specs.declared.ids.FileId.{FileId}
use Rattle.locus_ids.specs.declared.ids.Stamp.{Stamp}
use Rattle.commit_graph.specs.declared.history.Version.{Version}
use Rattle.commit_graph.specs.Versions.{same_file, same_stamp, is_ancestor, is_in, is_version}
use Rattle.commit_graph.proofs.Names.{same_stamp_refl}
use Rattle.trace_book.specs.declared.entry.Entry.{Entry}
use Rattle.trace_book.specs.declared.record.Record.{Record}
use Rattle.trace_book.specs.declared.record.Record.TheVariants as says
use Rattle.role_steps.specs.Views.{Told, Shown}
use Rattle.the_run.specs.Kept.{Among}
use Rattle.the_run.specs.Worlds.{Line}
use Rattle.tree_model.specs.Epochs.{epoch_of}
use Rattle.tree_model.specs.Folds.{Trace}
use Rattle.tree_model.specs.Histories.{held, history}
use Rattle.tree_laws.specs.Following.{IsFollowed, MayTell}
use Rattle.tree_laws.specs.Instances.{HasAtLeast}
use Rattle.tree_laws.specs.Printed.{entries, onto_entries}
use Rattle.tree_laws.proofs.Rows.{followed_rows}
use Rattle.calm_laws.specs.of_store_laws.Holdings.Below.{LawsBelow}
use Rattle.calm_laws.specs.of_store_laws.Holdings.Held.{SitesHold}
use Rattle.calm_laws.proofs.of_store_laws.Holdings.Ancestors.{ancestor_before, ancestor_newest}
use Rattle.calm_laws.proofs.of_store_laws.Holdings.Below.{commits_new, laws_before, packs_hold}
use Rattle.calm_laws.proofs.of_store_laws.Holdings.Holding.{sites_hold}
use Rattle.calm_laws.proofs.of_store_laws.Holdings.Made.{held_stand}
use Rattle.calm_laws.proofs.of_store_laws.Holdings.Rising.{held_rises}
use Rattle.calm_laws.proofs.of_store_laws.Commits.{file_own}
use Rattle.headline_laws.specs.Promises.Holding.{CommitsAreHeld, CommitsStayHeld}

-- a version that stands, besides
record HoldsSo (c : Config) (now : Trace) (site : ℕ) (f : FileId) (stamp : Stamp) : Type 0 where
  holds : Stamp
  held_is : held c now site f ≡ Some holds
  above : is_ancestor (history c now) f stamp holds ≡ true
  stands : is_in (history c now) f holds ≡ true

module _ (c : Config) (n : ℕ) (older : List Line) (followed : IsFollowed c older) (site : ℕ) (f : FileId) (stamp : Stamp) where
  abbrev More : Told → List Line
  More x = record { number = n; told = x } ∷ older

  -- a version is written at a site in its epoch
  written : (x : Told) → MayTell c older x → LawsBelow c (More x) → (e : EpochId) → epoch_of (entries older) site ≡ Some e → epoch_of (entries (More x)) site ≡ Some e → HoldsSo c (entries older) site f stamp → HoldsSo c (entries (More x)) site f stamp
  written x may laws e before after k = record {
    holds = r.now;
    held_is = sym (now_holds.now e site f after) ∙ r.held;
    above = r.above;
    stands = held_stand c (entries (More x)) (followed_rows c (More x) (may, followed)) e f site r.now r.held;
  }
    where
      old_holds : SitesHold c (entries older)
      old_holds = sites_hold c (entries older) (packs_hold c older (laws_before c (record { number = n; told = x }) older laws).packed)

      now_holds : SitesHold c (entries (More x))
      now_holds = sites_hold c (entries (More x)) (packs_hold c (More x) laws.packed)

      r : HasAtLeast c (More x) e site f stamp
      r = held_rises c older n x followed may (packs_hold c older (laws_before c (record { number = n; told = x }) older laws).packed) (commits_new c (More x) (may, followed) laws.once) e site f stamp
          (record { now = k.holds; held = old_holds.now e site f before ∙ k.held_is; above = k.above })

  commit_holds : (g : FileId) (z : ℕ) (made : Stamp) (parents : List Stamp) (content : List ℕ) → MayTell c older (Shown (says.Commit g z made parents content)) → LawsBelow c (More (Shown (says.Commit g z made parents content))) → HoldsSo c (entries older) site f stamp → HoldsSo c (entries (More (Shown (says.Commit g z made parents content)))) site f stamp
  commit_holds g z made parents content may laws k = by_test (same_file g f && (z == site)) refl
    where
      x : Told
      x = Shown (says.Commit g z made parents content)

      w : Version
      w = record { file = g; site = z; stamp = made; parents = parents; content = content }

      fresh : is_in (history c (entries older)) g made ≡ false
      fresh = (commits_new c (More (Shown (says.Commit g z made parents content))) (may, followed) laws.once).0

      by_test : (b : Bool) → (same_file g f && (z == site)) ≡ b → HoldsSo c (entries (More (Shown (says.Commit g z made parents content)))) site f stamp
      by_test true t = written (Shown (says.Commit g z made parents content)) may laws may.row.epoch at at k
        where
          at : epoch_of (entries older) site ≡ Some may.row.epoch
          at = ap (epoch_of (entries older)) (sym (equal z site (and_second (same_file g f) (z == site) t))) ∙ may.row.inside
      by_test false t = record {
        holds = k.holds;
        held_is = ap (λ (b : Bool). cond b (Some made) (held c (entries older) site f)) t ∙ k.held_is;
        above = ancestor_before w (history c (entries older)) f stamp k.holds fresh k.stands ∙ k.above;
        stands = later (is_version f k.holds w) (is_in (history c (entries older)) f k.holds) k.stands;
      }
        where
          later : (a b : Bool) → b ≡ true → (a || b) ≡ true
          later true b e = refl
          later false b e = e

  adopt_holds : (g : FileId) (z : ℕ) (made : Stamp) → MayTell c older (Shown (says.Adopt g z made)) → LawsBelow c (More (Shown (says.Adopt g z made))) → HoldsSo c (entries older) site f stamp → HoldsSo c (entries (More (Shown (says.Adopt g z made)))) site f stamp
  adopt_holds g z made may laws k = by_test (same_file g f && (z == site)) refl
    where
      by_test : (b : Bool) → (same_file g f && (z == site)) ≡ b → HoldsSo c (entries (More (Shown (says.Adopt g z made)))) site f stamp
      by_test true t = written (Shown (says.Adopt g z made)) may laws may.row.epoch at at k
        where
          at : epoch_of (entries older) site ≡ Some may.row.epoch
          at = ap (epoch_of (entries older)) (sym (equal z site (and_second (same_file g f) (z == site) t))) ∙ may.row.inside
      by_test false t = record {
        holds = k.holds;
        held_is = ap (λ (b : Bool). cond b (Some made) (held c (entries older) site f)) t ∙ k.held_is;
        above = k.above;
        stands = k.stands;
      }

  told_holds : (x : Told) → MayTell c older x → LawsBelow c (More x) → HoldsSo c (entries older) site f stamp → HoldsSo c (entries (More x)) site f stamp
  told_holds (Shown (says.Commit g z made parents content)) may laws k = commit_holds g z made parents content may laws k
  told_holds (Shown (says.Adopt g z made)) may laws k = adopt_holds g z made may laws k
  told_holds x may laws k = record { holds = k.holds; held_is = k.held_is; above = k.above; stands = k.stands }

-- a site holds what it has just committed
just_held : (c : Config) (before : Trace) (line site : ℕ) (f : FileId) (stamp : Stamp) (parents : List Stamp) (content : List ℕ) → HoldsSo c (record { line = line; what = says.Commit f site stamp parents content } ∷ before) site f stamp
just_held c before line site f stamp parents content = record {
  holds = stamp;
  held_is = ap (λ (b : Bool). cond b (Some stamp) (held c before site f)) (and_true (same_file f f) (site == site) (file_own f) (equal_self site));
  above = ancestor_newest w (history c before) f stamp stamp own ∙ or_first (same_stamp stamp stamp) (list_any (is_ancestor (history c before) f stamp) parents) (same_stamp_refl stamp);
  stands = or_first (is_version f stamp w) (is_in (history c before) f stamp) own;
}
  where
    w : Version
    w = record { file = f; site = site; stamp = stamp; parents = parents; content = content }

    own : is_version f stamp w ≡ true
    own = and_true (same_file f f) (same_stamp stamp stamp) (file_own f) (same_stamp_refl stamp)

-- ---- all commits ----

abbrev AllHold : Config → Trace → Type 0
AllHold c now = (line site : ℕ) (f : FileId) (stamp : Stamp) (parents : List Stamp) (content : List ℕ) → Among (record { line = line; what = says.Commit f site stamp parents content }) now → HoldsSo c now site f stamp

all_hold : (c : Config) (trace : List Line) → IsFollowed c trace → LawsBelow c trace → AllHold c (entries trace)
all_hold c [] h laws line site f stamp parents content a = absurd a
all_hold c (x ∷ older) h laws line site f stamp parents content a = by_told (λ m. all_hold c older h.1 (laws_before c x older laws) line site f stamp parents content m) x.told h.0 laws a
  where
    same_what : (r : Record) → ◌≡◌ {A = Entry} (record { line = line; what = says.Commit f site stamp parents content }) (record { line = x.number; what = r }) → says.Commit f site stamp parents content ≡ r
    same_what r e = ap (λ (y : Entry). y.what) e

    by_record : (Among (record { line = line; what = says.Commit f site stamp parents content }) (entries older) → HoldsSo c (entries older) site f stamp) → (r : Record) → MayTell c older (Shown r) → LawsBelow c (record { number = x.number; told = Shown r } ∷ older) → Among (record { line = line; what = says.Commit f site stamp parents content }) (record { line = x.number; what = r } ∷ entries older) → HoldsSo c (record { line = x.number; what = r } ∷ entries older) site f stamp
    by_record old r may k (inl e) = subst (λ (y : Record). HoldsSo c (record { line = x.number; what = y } ∷ entries older) site f stamp) (same_what r e) (just_held c (entries older) x.number site f stamp parents content)
    by_record old r may k (inr m) = told_holds c x.number older h.1 site f stamp (Shown r) may k (old m)

    by_told : (Among (record { line = line; what = says.Commit f site stamp parents content }) (entries older) → HoldsSo c (entries older) site f stamp) → (y : Told) → MayTell c older y → LawsBelow c (record { number = x.number; told = y } ∷ older) → Among (record { line = line; what = says.Commit f site stamp parents content }) (onto_entries x.number y (entries older)) → HoldsSo c (onto_entries x.number y (entries older)) site f stamp
    by_told old (Shown r) may k m = by_record old r may k m
    by_told old y may k m = old m

pub commits_held : (c : Config) (trace : List Line) → IsFollowed c trace → LawsBelow c trace → CommitsAreHeld c (entries trace)
commits_held c trace h laws line site f stamp parents content a = (let k : HoldsSo c (entries trace) site f stamp = all_hold c trace h laws line site f stamp parents content a in record { holds = k.holds; held = k.held_is; above = k.above })

pub stay_held : (c : Config) (trace : List Line) → IsFollowed c trace → LawsBelow c trace → CommitsStayHeld c (entries trace)
stay_held c [] h laws = commits_held c [] h laws
stay_held c (x ∷ older) h laws = by_told x.told (commits_held c (x ∷ older) h laws) (stay_held c older h.1 (laws_before c x older laws))
  where
    by_told : (y : Told) → CommitsAreHeld c (onto_entries x.number y (entries older)) → CommitsStayHeld c (entries older) → CommitsStayHeld c (onto_entries x.number y (entries older))
    by_told (Shown r) now old = (now, old)
    by_told _ now old = old
