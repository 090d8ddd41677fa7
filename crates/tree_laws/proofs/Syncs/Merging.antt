-- Resolutions and mends begin from the version that the table notes for their site, which is what the site has: none adopts a
-- flagged file, and the synchronization site notes its own adoptions.
use Rattle.std.proofs.Common.{◌≡◌, ℕ, suc, ◌==◌, max, Bool, true, false, ◌&&◌, ◌||◌, cond, List, [], ◌∷◌, length, Some, refl, sym, ap, ◌∙◌}
use Rattle.locus_ids.specs.declared.config.Config.{Config}
use Rattle.locus_ids.specs.declared.ids.EpochId.{EpochId}
use Rattle.locus_ids.specs.declared.ids.FileId.{FileId}
use Rattle.locus_ids.specs.declared.ids.Stamp.{Stamp}
use Rattle.locus_ids.specs.Sizes.{sites_max}
use Rattle.version_vector.specs.Counters.{joined, part}
use Rattle.version_vector.proofs.Counting.{part-joined}
use Rattle.commit_graph.specs.Versions.{same_stamp}
use Rattle.commit_graph.specs.declared.history.Version.{Version}
use Rattle.trace_book.specs.Same.{same_epoch}
use Rattle.trace_book.specs.declared.record.Record.{Record}
use Rattle.trace_book.specs.declared.record.Record.TheVariants as says
use Rattle.role_steps.specs.Opens.{is_stamp_among}
use Rattle.role_steps.specs.Own.{Every}
use Rattle.role_steps.specs.Versions.{joined_vectors, stamps_of}
use Rattle.role_steps.specs.declared.synchronizing.VersionRow.{VersionRow}
use Rattle.the_run.specs.Worlds.{Line}
use Rattle.tree_model.specs.Epochs.{members_of}
use Rattle.tree_model.specs.Folds.{Trace}
use Rattle.tree_model.specs.Histories.{history}
use Rattle.tree_model.specs.State.{TreeState, has_stamp, is_granted_here, is_make}
use Rattle.tree_model.specs.Tree.{acted, grant_of, granted, joined as site_joined, left, next, released, tree_of, without_make}
use Rattle.tree_laws.specs.Packets.{JoinsParents}
use Rattle.tree_laws.specs.Tables.{VersionFact}
use Rattle.tree_laws.proofs.Kinship.{tree_epoch_is}
use Rattle.tree_laws.proofs.Syncs.Openings.{none_seen}
use Rattle.tree_laws.proofs.Syncs.Trees.{same_if}
use Rattle.tree_laws.proofs.Syncs.Versions.{row_stands, row_vector}

-- ---- the join of several versions ----

length_joined : (a b : List ℕ) → length a ≡ length b → length (joined a b) ≡ length b
length_joined [] b e = refl
length_joined (x ∷ a) [] e = e
length_joined (x ∷ a) (y ∷ b) e = ap (λ (n : ℕ). suc n) (length_joined a b (cc))

pub joins_rows : (c : Config) (trace : List Line) (f : FileId) (vs : List VersionRow) → Every (VersionFact c trace f) vs → JoinsParents c trace f (stamps_of vs) (joined_vectors vs)
joins_rows c trace f [] k = (none_seen sites_max, refl)
joins_rows c trace f (v ∷ vs) k = (
  joined_vectors vs,
  row_stands c trace f v k.0,
  joins_rows c trace f vs k.1,
  (λ s. part-joined v.vector (joined_vectors vs) s ∙ ap (λ (w : List ℕ). max (part w s) (part (joined_vectors vs) s)) (row_vector c trace f v k.0)),
  length_joined v.vector (joined_vectors vs) (ap length (row_vector c trace f v k.0) ∙ sym (rest vs (joins_rows c trace f vs k.1))) ∙ rest vs (joins_rows c trace f vs k.1),
)
  where
    rest : (ws : List VersionRow) → JoinsParents c trace f (stamps_of ws) (joined_vectors ws) → length (joined_vectors ws) ≡ sites_max
    rest [] j = j.1
    rest (w ∷ ws) j = j.4

pub among_is_has : (s : Stamp) (ss : List Stamp) → is_stamp_among s ss ≡ has_stamp ss s
among_is_has s [] = refl
among_is_has s (x ∷ xs) = over (same_stamp x s) (among_is_has s xs)
  where
    over : (b : Bool) → is_stamp_among s xs ≡ has_stamp xs s → cond b true (is_stamp_among s xs) ≡ b || has_stamp xs s
    over true e = refl
    over false e = e

-- ---- the members of a tree ----

members_next : (h : List Version) (r : Record) (t : TreeState) (line : ℕ) (before : Trace) (e : EpochId) → t.epoch ≡ e → t.members ≡ members_of before e → (next h r t).members ≡ members_of (record { line = line; what = r } ∷ before) e
members_next h (says.Join s at m) t line before e is k = over (same_epoch at t.epoch) ∙ ap (λ (y : EpochId). cond (same_epoch at y) (Some m) (members_of before e)) is
  where
    over : (b : Bool) → (cond b (site_joined s m t) (left s t)).members ≡ cond b (Some m) (members_of before e)
    over true = refl
    over false = k
members_next h (says.Start at g copies) t line before e is k = same_if (λ (u : TreeState). u.members) (same_epoch at t.epoch && (g == t.group)) (record t { started = true }) t (λ b. refl) ∙ k
members_next h (says.Grant at call request i m file stamp ss) t line before e is k = same_if (λ (u : TreeState). u.members) (same_epoch at t.epoch) (granted h (grant_of t call i m file ss) stamp t) t (λ b. refl) ∙ k
members_next h (says.Refuse at call request i m file why) t line before e is k = same_if (λ (u : TreeState). u.members) (same_epoch at t.epoch && ((file.group == t.group) && is_make m)) (record t { makes = without_make call t.makes }) t (λ b. refl) ∙ k
members_next h (says.Act at i n o result) t line before e is k = same_if (λ (u : TreeState). u.members) (same_epoch at t.epoch && is_granted_here t i) (acted h i o result t) t (λ b. refl) ∙ k
members_next h (says.Release at i file stamp) t line before e is k = same_if (λ (u : TreeState). u.members) (same_epoch at t.epoch && (file.group == t.group)) (released i file stamp t) t (λ b. refl) ∙ k
members_next h r t line before e is k = k

-- they are those of the epoch
pub tree_members : (c : Config) (e : EpochId) (g : ℕ) (before : Trace) → (tree_of c e g before).members ≡ members_of before e
tree_members c e g [] = refl
tree_members c e g (r ∷ before) = members_next (history c before) r.what (tree_of c e g before) r.line before e (tree_epoch_is c e g before) (tree_members c e g before)
