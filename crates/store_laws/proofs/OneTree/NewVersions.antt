-- What is committed is below no version that stood before: its stamp is new, and vectors tell which version is newer.
use Rattle.std.proofs.Common.{◌≡◌, ℕ, Bool, true, false, not, ◌&&◌, ◌||◌, cond, List, ◌∷◌, refl, sym, ◌∙◌, ap, subst}
use Rattle.std.specs.List.{list_any}
use Rattle.role_steps.proofs.of_plain_facts.Tests.{and_first, and_second, true_false}
use Rattle.locus_ids.specs.declared.config.Config.{Config}
use Rattle.locus_ids.specs.declared.ids.FileId.{FileId}
use Rattle.locus_ids.specs.declared.ids.Stamp.{Stamp}
use Rattle.commit_graph.specs.Vectors.{vector_of}
use Rattle.commit_graph.specs.Versions.{is_ancestor, is_in, is_proper_ancestor, is_version, same_file, same_stamp}
use Rattle.commit_graph.specs.declared.history.Version.{Version}
use Rattle.trace_book.specs.declared.record.Record.{Record}
use Rattle.trace_book.specs.declared.record.Record.TheVariants as says
use Rattle.role_steps.specs.Versions.{is_below}
use Rattle.role_steps.specs.Views.{Told, Shown}
use Rattle.the_run.specs.Worlds.{Line}
use Rattle.tree_model.specs.Histories.{history}
use Rattle.tree_laws.specs.Frames.{VersionsStay}
use Rattle.tree_laws.specs.Instances.{Stands}
use Rattle.tree_laws.specs.Printed.{entries}
use Rattle.tree_laws.proofs.Histories.{stands_more}
use Rattle.tree_laws.proofs.Rows.{followed_rows}
use Rattle.tree_laws.proofs.Versions.{versions_stay}
use Rattle.store_laws.specs.Pulling.{MakesVersion, NewAreNotBelow}
use Rattle.store_laws.specs.Holdings.Order.{AncestorsAreAnOrder}
use Rattle.store_laws.proofs.Holdings.Ancestors.{ancestors_ordered}
use Rattle.store_laws.proofs.Holdings.Below.{commits_new}
use Rattle.store_laws.proofs.Holdings.Made.{rows_made}
use Rattle.tree_laws.proofs.Orders.Standing.{newest, same_file_eq, same_stamp_eq}
use Rattle.store_laws.specs.OneTree.Rest.{Comes, Past, more}
use Rattle.store_laws.proofs.OneTree.Staying.{rest_below, stays}
use Rattle.store_laws.proofs.OneTree.ToldVectorTelling.{vectors_tell_newer}

module _ (c : Config) (n : ℕ) (older : List Line) (g : FileId) (z : ℕ) (stamp : Stamp) (parents : List Stamp) (content : List ℕ) (k : Comes c older (Shown (says.Commit g z stamp parents content))) where
  abbrev after : List Line
  after = more n (Shown (says.Commit g z stamp parents content)) older

  abbrev h : List Version
  h = history c (entries older)

  abbrev made : Version
  made = record { file = g; site = z; stamp = stamp; parents = parents; content = content }

  past_after : Past c after
  past_after = record { followed = (k.may, k.past.followed); rest = record { each = (k.rest, k.past.rest.each); packs = k.past.rest.packs } }

  versions : VersionsStay c older after
  versions = versions_stay c n (Shown (says.Commit g z stamp parents content)) older k.past.followed k.may ((stays c).all n (Shown (says.Commit g z stamp parents content)) older k).fresh ((stays c).all n (Shown (says.Commit g z stamp parents content)) older k).order

  ordered : AncestorsAreAnOrder h
  ordered = ancestors_ordered h (rows_made c (entries older) (followed_rows c older k.past.followed) (commits_new c older k.past.followed (rest_below c older k.past.rest).once))

  -- it is no ancestor of what stood
  no_ancestor : (other : Stamp) → Stands c older g other → is_ancestor (made ∷ h) g stamp other ≡ false
  no_ancestor other stands = over (is_version g other made) refl
    where
      it : is_version g other made ≡ true → stamp ≡ other
      it q = same_stamp_eq stamp other (and_second (same_file g g) _ q)

      before : (b : Bool) → is_ancestor h g stamp other ≡ b → b ≡ false
      before true q = absurd (k.rest.fresh (ordered.stand g stamp other stands q))
      before false q = refl

      over : (b : Bool) → is_version g other made ≡ b → cond b (same_stamp stamp other || list_any (is_ancestor h g stamp) parents) (is_ancestor h g stamp other) ≡ false
      over true q = absurd (k.rest.fresh (subst (Stands c older g) (sym (it q)) stands))
      over false q = before (is_ancestor h g stamp other) refl

  not_proper : (other : Stamp) → Stands c older g other → is_proper_ancestor (made ∷ h) g stamp other ≡ false
  not_proper other stands = ap (λ (b : Bool). not (same_stamp stamp other) && b) (no_ancestor other stands) ∙ last (not (same_stamp stamp other))
    where
      last : (b : Bool) → b && false ≡ false
      last true = refl
      last false = refl

  not_below : (other : Stamp) → Stands c older g other → is_below (vector_of (history c (entries after)) g stamp) (vector_of h g other) ≡ false
  not_below other stands = ap (is_below (vector_of (history c (entries after)) g stamp)) (sym (versions.vectors g other stands))
      ∙ (sym (vectors_tell_newer c after past_after g stamp other (newest made h g stamp refl refl) (stands_more c n (Shown (says.Commit g z stamp parents content)) older g other stands)) ∙ not_proper other stands)

new_record : (c : Config) (n : ℕ) (r : Record) (older : List Line) → Comes c older (Shown r) → NewAreNotBelow c older (more n (Shown r) older) (Shown r)
new_record c n (says.Commit g z stamp parents content) older k site f s m other stands = subst (λ (y : FileId). is_below (vector_of (history c (entries (more n (Shown (says.Commit g z stamp parents content)) older))) y s) (vector_of (history c (entries older)) y other) ≡ false) m.0
    (subst (λ (y : Stamp). is_below (vector_of (history c (entries (more n (Shown (says.Commit g z stamp parents content)) older))) g y) (vector_of (history c (entries older)) g other) ≡ false) m.2
    (not_below c n older g z stamp parents content k other (subst (λ (y : FileId). Stands c older y other) (sym m.0) stands)))
new_record c n _ older k site f s m other stands = absurd m

pub new_not_below : (c : Config) (n : ℕ) (x : Told) (older : List Line) → Comes c older x → NewAreNotBelow c older (more n x older) x
new_not_below c n (Shown r) older k = new_record c n r older k
new_not_below c n _ older k = λ site f s m other stands. absurd m
