-- In each world of a round in which all members are together the table of an unflagged file names a holder of its only kept version, and
-- no member whose copy is below it: it is so in the one tree.
use Rattle.std.proofs.Common.{◌≡◌, ◌≢◌, ℕ, ◌==◌, Bool, true, false, cond, not, ◌&&◌, ◌||◌, List, [], ◌∷◌, map, filter, Option, Some, refl, sym, ◌∙◌, ap, subst, inl, inr, arith}
use Rattle.std.proofs.lemmas.Bool.Decides.{nat_tests}
use Rattle.std.specs.Option.{option_map}
use Rattle.role_steps.proofs.of_plain_facts.Numbers.{equal}
use Rattle.role_steps.proofs.of_plain_facts.Tests.{true_false}
use Rattle.locus_ids.specs.declared.config.Config.{Config}
use Rattle.locus_ids.specs.declared.ids.FileId.{FileId}
use Rattle.locus_ids.specs.declared.ids.Stamp.{Stamp}
use Rattle.schedule_lines.specs.declared.line.ScheduleLine.{ScheduleLine}
use Rattle.commit_graph.specs.Vectors.{vector_of}
use Rattle.commit_graph.specs.declared.history.Version.{Version}
use Rattle.commit_graph.specs.Versions.{same_stamp, is_ancestor}
use Rattle.commit_graph.proofs.Names.{same_stamp_eq}
use Rattle.tree_model.specs.Files.{version_of}
use Rattle.tree_model.specs.Histories.{history, held}
use Rattle.role_steps.specs.Adoption.{table_group}
use Rattle.role_steps.specs.Storage.{copy_of}
use Rattle.role_steps.specs.Versions.{row_ino, holding_site, holders_of, is_below, is_among}
use Rattle.role_steps.specs.Views.{SiteView}
use Rattle.role_steps.specs.declared.rounds.InEpoch.{InEpoch}
use Rattle.role_steps.specs.declared.synchronizing.Holding.{Holding}
use Rattle.role_steps.specs.declared.synchronizing.VersionRow.{VersionRow}
use Rattle.the_run.specs.Kept.{Among}
use Rattle.the_run.specs.Worlds.{World, Running, Line, place_at}
use Rattle.tree_laws.specs.Instances.{Stands, HasAtLeast}
use Rattle.tree_laws.specs.Packets.{file_in}
use Rattle.tree_laws.specs.Printed.{entries}
use Rattle.tree_laws.specs.Stores.{copy_for}
use Rattle.tree_laws.specs.Tables.{VersionFact, HasHolder, HoldingFact, FileFact, TableFact}
use Rattle.tree_laws.proofs.Rows.{followed_rows}
use Rattle.store_laws.specs.Holdings.Order.{AncestorsAreAnOrder}
use Rattle.store_laws.proofs.Holdings.Ancestors.{ancestors_ordered}
use Rattle.store_laws.proofs.Holdings.Below.{commits_new, packs_hold}
use Rattle.store_laws.proofs.Holdings.Holding.{sites_hold}
use Rattle.store_laws.proofs.Holdings.Made.{held_stand, rows_made}
use Rattle.tree_laws.proofs.Syncs.Versions.{row_vector}
use Rattle.store_laws.specs.OneTree.Places.{InsideFact}
use Rattle.store_laws.specs.OneTree.Rest.{Past}
use Rattle.store_laws.proofs.OneTree.Staying.{rest_below}
use Rattle.store_laws.proofs.OneTree.ToldVectorOnly.{row_stands}
use Rattle.store_laws.proofs.OneTree.ToldVectorTelling.{vectors_tell_newer}
use Rattle.rest_laws.proofs.StoreStepKnown.{stands_narrow}
use Rattle.row_laws.specs.Orderly.Calm.{AreTogether}
use Rattle.calm_laws.specs.Carrying.{IsMember, frame_of}
use Rattle.calm_laws.specs.Rounds.{IsInRound}
use Rattle.calm_laws.proofs.Delivered.{inside_fact}
use Rattle.calm_laws.proofs.Facts.{RoundFacts, round_facts}
use Rattle.calm_laws.proofs.Lists.{every_among, row_key}
use Rattle.calm_laws.proofs.Members.{sync_is}
use Rattle.calm_laws.specs.Convergence.Converging.{TablesTell}
use Rattle.calm_laws.specs.Convergence.Offers.{is_above}

-- ---- holders ----

abbrev holds_this : Stamp → Holding → Bool
holds_this stamp h = same_stamp h.stamp stamp

stamp_itself : (a : Stamp) → same_stamp a a ≡ true
stamp_itself a = grind (arith, nat_tests)

among_some : {A : Type 0} (x : A) (xs : List A) → Among x xs → xs ≢ []
among_some x [] a e = a
among_some x (y ∷ ys) a e = nothing y ys e
  where
    nothing : {B : Type 0} (y : B) (ys : List B) → y ∷ ys ≡ [] → ⊥
    nothing y ys e = cc

-- a site that the table says to hold the version
record Holder (s : ℕ) (stamp : Stamp) (hs : List Holding) : Type 0 where
  holding : Holding
  there : Among holding hs
  site : holding.site ≡ s
  stamp_is : holding.stamp ≡ stamp

holder_of : (s : ℕ) (stamp : Stamp) (hs : List Holding) → is_among s (map holding_site (filter (holds_this stamp) hs)) ≡ true → Holder s stamp hs
holder_of s stamp [] h = absurd (true_false (sym h))
holder_of s stamp (x ∷ xs) h = by_stamp (holds_this stamp x) refl (holder_of s stamp xs) h
  where
    later : Holder s stamp xs → Holder s stamp (x ∷ xs)
    later k = record { holding = k.holding; there = inr k.there; site = k.site; stamp_is = k.stamp_is }

    by_site : holds_this stamp x ≡ true → (is_among s (map holding_site (filter (holds_this stamp) xs)) ≡ true → Holder s stamp xs) → (b : Bool) → (x.site == s) ≡ b → (b || is_among s (map holding_site (filter (holds_this stamp) xs))) ≡ true → Holder s stamp (x ∷ xs)
    by_site e rest true q k = record { holding = x; there = inl refl; site = equal x.site s q; stamp_is = same_stamp_eq x.stamp stamp e }
    by_site e rest false q k = later (rest k)

    by_stamp : (b : Bool) → holds_this stamp x ≡ b → (is_among s (map holding_site (filter (holds_this stamp) xs)) ≡ true → Holder s stamp xs) →
        is_among s (map holding_site (cond b (x ∷ filter (holds_this stamp) xs) (filter (holds_this stamp) xs))) ≡ true → Holder s stamp (x ∷ xs)
    by_stamp true e rest k = by_site e rest (x.site == s) refl k
    by_stamp false e rest k = later (rest k)

holder_there : (stamp : Stamp) (h : Holding) (hs : List Holding) → Among h hs → same_stamp h.stamp stamp ≡ true → Among h.site (map holding_site (filter (holds_this stamp) hs))
holder_there stamp h [] a e = absurd a
holder_there stamp h (x ∷ xs) a e = over (holds_this stamp x) refl a (λ m. holder_there stamp h xs m e)
  where
    over : (b : Bool) → holds_this stamp x ≡ b → Among h (x ∷ xs) → (Among h xs → Among h.site (map holding_site (filter (holds_this stamp) xs))) → Among h.site (map holding_site (cond b (x ∷ filter (holds_this stamp) xs) (filter (holds_this stamp) xs)))
    over true q (inl m) f = inl (ap holding_site m)
    over true q (inr m) f = inr (f m)
    over false q (inl m) f = absurd (true_false (sym e ∙ (ap (holds_this stamp) m ∙ q)))
    over false q (inr m) f = f m

-- ---- by the one tree ----

-- whose copy is of a version that has the other one among its ancestors is not below it
not_above : (c : Config) (t : List Line) → Past c t → (f : FileId) (v : VersionRow) → VersionFact c t f v → (now : Stamp) → Stands c t f now → is_ancestor (history c (entries t)) f v.stamp now ≡ true → is_below (vector_of (history c (entries t)) f now) v.vector ≡ false
not_above c t past f v fact now stands above = ap (is_below (vector_of h f now)) (row_vector c t f v fact) ∙ (sym (vectors_tell_newer c t past f now v.stamp stands (row_stands c t f v fact)) ∙ over (is_ancestor h f now v.stamp) refl)
  where
    h : List Version
    h = history c (entries t)

    order : AncestorsAreAnOrder h
    order = ancestors_ordered h (rows_made c (entries t) (followed_rows c t past.followed) (commits_new c t past.followed (rest_below c t past.rest).once))

    over : (b : Bool) → is_ancestor h f now v.stamp ≡ b → (not (same_stamp now v.stamp) && b) ≡ false
    over true e = (let eq : now ≡ v.stamp = order.one f now v.stamp (row_stands c t f v fact) e above in ap (λ (b : Bool). not b && true) (subst (λ (y : Stamp). same_stamp now y ≡ true) eq (stamp_itself now)))
    over false e = none (not (same_stamp now v.stamp))
      where
        none : (a : Bool) → (a && false) ≡ false
        none true = refl
        none false = refl

pub tables_tell : (c : Config) (lines : List ScheduleLine) (n : ℕ) (e : InEpoch) (w : World) → IsInRound c lines n w → AreTogether w e → TablesTell c e (place_at w)
tables_tell c lines n e w round together file r v known only = record { some_holder = some; hold = hold }
  where
    facts : RoundFacts c w
    facts = round_facts c lines n w round

    t : List Line
    t = w.trace

    past : Past c t
    past = record { followed = facts.fact.followed; rest = facts.rest }

    css : IsMember e known.css
    css = (sync_is c e file.group known.css known.synced).1

    inside : InsideFact c (frame_of c e known.css) t known.view
    inside = inside_fact c e w known.css known.view facts.fact together css known.here

    at_table : Among known.table known.view.tables × (known.table.group ≡ file.group)
    at_table = row_key table_group file.group known.view.tables known.table known.found

    table : TableFact c t (frame_of c e known.css) known.table
    table = every_among (TableFact c t (frame_of c e known.css)) known.table known.view.tables at_table.0 inside.tables

    at_row : Among r known.table.files × (r.ino ≡ file.ino)
    at_row = row_key row_ino file.ino known.table.files r known.is_row

    in_group : FileFact c t e.id known.table.group r
    in_group = every_among (FileFact c t e.id known.table.group) r known.table.files at_row.0 table.rows

    fact : FileFact c t e.id file.group r
    fact = subst (λ (g : ℕ). FileFact c t e.id g r) at_table.1 in_group

    there : Among v r.kept
    there = subst (λ (vs : List VersionRow). Among v vs) (sym only) (inl refl)

    is_file : file_in file.group r.ino ≡ file
    is_file = ap (λ (i : ℕ). file_in file.group i) at_row.1

    some : holders_of r v.stamp ≢ []
    some = (let h : HasHolder r v = every_among (HasHolder r) v r.kept there fact.held in
        among_some h.0.site (holders_of r v.stamp) (holder_there v.stamp h.0 r.holders h.1 (subst (λ (y : Stamp). same_stamp h.0.stamp y ≡ true) h.2 (stamp_itself h.0.stamp))))

    version : VersionFact c t file v
    version = subst (λ (f : FileId). VersionFact c t f v) is_file (every_among (VersionFact c t (file_in file.group r.ino)) v r.kept there fact.keeps)

    hold : (s : ℕ) (view : SiteView) → IsMember e s → is_among s (holders_of r v.stamp) ≡ true → place_at w s ≡ Some (Running view) → is_above v.vector (copy_of view.store file) ≡ false
    hold s view member among here = ap (is_above v.vector) copy ∙ not_above c t past file v version has.now stands has.above
      where
        k : Holder s v.stamp r.holders
        k = holder_of s v.stamp r.holders among

        has : HasAtLeast c t e.id s file v.stamp
        has = subst (λ (f : FileId). HasAtLeast c t e.id s f v.stamp) is_file (subst (λ (y : Stamp). HasAtLeast c t e.id s (file_in file.group r.ino) y) k.stamp_is (subst (λ (z : ℕ). HasAtLeast c t e.id z (file_in file.group r.ino) k.holding.stamp) k.site (every_among (HoldingFact c t e.id (file_in file.group r.ino)) k.holding r.holders k.there fact.holders)))

        stands : Stands c t file has.now
        stands = held_stand c (entries t) (followed_rows c t past.followed) e.id file s has.now has.held

        theirs : InsideFact c (frame_of c e s) t view
        theirs = inside_fact c e w s view facts.fact together member here

        held_now : held c (entries t) s file ≡ Some has.now
        held_now = sym ((sites_hold c (entries t) (packs_hold c t (rest_below c t past.rest).packed)).now e.id s file theirs.frame.inside) ∙ has.held

        copy : copy_of view.store file ≡ Some (copy_for file (version_of c (entries t) file has.now))
        copy = theirs.store.copies.are file (stands_narrow c t past.rest.each file has.now stands) ∙ ap (λ (o : Option Stamp). option_map (copy_for file) (option_map (version_of c (entries t) file) o)) held_now
