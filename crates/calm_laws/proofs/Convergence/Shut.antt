-- Where nobody has a file open at the synchronization site of its group, so it is in the one tree.
use Rattle.std.proofs.Common.{Bool, List, Some, [], ap, arith, cond, false, filter, inl, inr, length, length-append, map, nat_lt, refl, subst, suc, sym, true, zero, ℕ, ◌++◌, ◌+◌, ◌∙◌, ◌∷◌, ◌≡◌, ◌≤◌}
use Rattle.std.proofs.lemmas.Bool.Decides.{nat_tests}
use Rattle.calm_laws.proofs.Delivered.{inside_fact}
use Rattle.calm_laws.proofs.Facts.{RoundFacts}
use Rattle.calm_laws.proofs.Lists.{every_among, row_key}
use Rattle.calm_laws.proofs.Members.{sync_is}
use Rattle.calm_laws.proofs.TableThere.{table_there}
use Rattle.rest_laws.proofs.MendStepNumbered.{files_numbered}
use Rattle.calm_laws.specs.Carrying.{IsMember, frame_of}
use Rattle.commit_graph.specs.Versions.{same_file}
use Rattle.calm_laws.specs.Convergence.Copies.{IsOpenStill, NobodyHasOpen}
use Rattle.calm_laws.specs.Convergence.Rounds.{IsShut, IsShutFrom}
use Rattle.locus_ids.specs.declared.config.Config.{Config}
use Rattle.locus_ids.specs.declared.ids.FileId.{FileId}
use Rattle.locus_ids.specs.declared.ids.Stamp.{Stamp}
use Rattle.row_laws.specs.Orderly.Calm.{AreTogether, IsInside}
use Rattle.store_laws.specs.OneTree.Places.{InsideFact}
use Rattle.store_laws.specs.OneTree.Rest.{Past}
use Rattle.role_steps.proofs.of_plain_facts.Tests.{both_true, true_false}
use Rattle.role_steps.specs.Adoption.{table_group}
use Rattle.role_steps.specs.Opens.{is_open_on, is_open_stage}
use Rattle.role_steps.specs.Tables.{row}
use Rattle.role_steps.specs.Views.{boot_in, sync_site}
use Rattle.role_steps.specs.declared.rounds.InEpoch.{InEpoch}
use Rattle.role_steps.specs.declared.synchronizing.OpenRow.{OpenRow}
use Rattle.role_steps.specs.declared.synchronizing.OpenStage.{OpenStage}
use Rattle.role_steps.specs.declared.synchronizing.OpenStage.TheVariants as stage
use Rattle.role_steps.specs.declared.synchronizing.SyncTable.{SyncTable}
use Rattle.the_run.specs.Kept.{Among}
use Rattle.the_run.specs.Worlds.{Line, World, place_at}
use Rattle.tree_laws.proofs.Rows.{followed_rows}
use Rattle.tree_laws.specs.Instances.{Stands}
use Rattle.tree_laws.specs.Packets.{file_in}
use Rattle.tree_laws.specs.Printed.{entries}
use Rattle.tree_laws.specs.Tables.{TableFact, named_instance, named_row, tree_openers}
use Rattle.tree_model.specs.Packs as tree
use Rattle.tree_model.specs.State.{opener_of}
use Rattle.tree_model.specs.Tree.{tree_of}
use Rattle.tree_model.specs.declared.instance.Instance.{Instance}

none_left : {A : Type 0} (test : A → Bool) (xs : List A) → ((x : A) → Among x xs → test x ≡ true → ⊥) → filter test xs ≡ []
none_left test [] h = refl
none_left {A = A} test (x ∷ xs) h = over (test x) refl (none_left test xs (λ y a. h y (inr a)))
  where
    over : (b : Bool) → test x ≡ b → filter test xs ≡ [] → ◌≡◌ {A = List A} (cond b (x ∷ filter test xs) (filter test xs)) []
    over true e k = absurd (h x (inl refl) e)
    over false e k = k

cons_nil : {A : Type 0} (z : A) (zs : List A) → ◌≡◌ {A = List A} (z ∷ zs) [] → ⊥
cons_nil z zs q = cc

map_nil : {A B : Type 0} (g : A → B) (xs : List A) → map g xs ≡ [] → xs ≡ []
map_nil g [] e = refl
map_nil g (x ∷ xs) e = absurd (cons_nil (g x) (map g xs) e)

file_itself : (f : FileId) → same_file f f ≡ true
file_itself f = grind (arith, nat_tests)

still_open : (g : OpenStage) → is_open_stage g ≡ true → IsOpenStill g
still_open stage.Asked h = tt
still_open stage.Granted h = tt
still_open (stage.Refused why) h = absurd (true_false (sym h))
still_open stage.Ended h = absurd (true_false (sym h))

-- the list of the tree names the site
pub member_in : (e : InEpoch) (s : ℕ) → tree.is_member e.members s ≡ true → IsMember e s
member_in e s h z = some_place s h z
  where
    above : (k : ℕ) → nat_lt 0 k ≡ true → k ≡ 0 → ⊥
    above k p q = grind (arith, nat_tests)

    some_place : (t : ℕ) → tree.is_member e.members t ≡ true → boot_in e.members.boot t ≡ 0 → ⊥
    some_place t p q = above (tree.boot_in e.members t) p (same_boot t ∙ q)
      where
        same_boot : (t : ℕ) → tree.boot_in e.members t ≡ boot_in e.members.boot t
        same_boot zero = refl
        same_boot (suc k) = refl

-- ---- nobody has it open ----

past_in : (c : Config) (w : World) → RoundFacts c w → Past c w.trace
past_in c w facts = record { followed = facts.fact.followed; rest = facts.rest }

pub shut_in : (c : Config) (e : InEpoch) (w : World) (file : FileId) (stamp : Stamp) (css : ℕ) → RoundFacts c w → length c.packs ≤ 4 → AreTogether w e → sync_site c e.members file.group ≡ Some css → Stands c w.trace file stamp → NobodyHasOpen c e (place_at w) file →
    filter (λ (x : Instance). same_file x.grant.file file) (tree_of c e.id file.group (entries w.trace)).instances ≡ []
shut_in c e w file stamp css facts groups together sync stands nobody = map_nil named_instance _ (subst (λ (f : FileId). tree_openers (tree_of c e.id f.group (entries w.trace)) f ≡ []) is_file
    (sym (fact.openers_are file.ino numbered) ∙ ap (λ (rs : List OpenRow). map named_row rs) (ap (λ (f : FileId). filter (is_open_on f) t.opens) is_file ∙ none_left (is_open_on file) t.opens closed)))
  where
    member : IsMember e css
    member = (sync_is c e file.group css sync).1

    i : IsInside w e css
    i = together.inside css member

    inside : InsideFact c (frame_of c e css) w.trace i.view
    inside = inside_fact c e w css i.view facts.fact together member i.here

    there : (t : SyncTable) × (row table_group file.group i.view.tables ≡ Some t)
    there = table_there c w.trace e file.group css (boot_in e.members.boot css) i.view groups inside sync

    t : SyncTable
    t = there.0

    at : Among t i.view.tables × (t.group ≡ file.group)
    at = row_key table_group file.group i.view.tables t there.1

    fact : TableFact c w.trace (frame_of c e css) t
    fact = every_among (TableFact c w.trace (frame_of c e css)) t i.view.tables at.0 inside.tables

    is_file : file_in t.group file.ino ≡ file
    is_file = ap (λ (g : ℕ). file_in g file.ino) at.1

    numbered : file.ino ≡ 0 → ⊥
    numbered = (files_numbered c (entries w.trace) (followed_rows c w.trace facts.fact.followed)).stand file stamp stands

    closed : (r : OpenRow) → Among r t.opens → is_open_on file r ≡ true → ⊥
    closed r a o = (let b : (same_file r.file file ≡ true) × (is_open_stage r.stage ≡ true) = both_true (same_file r.file file) (is_open_stage r.stage) o in nobody css i.view t r sync i.here there.1 a b.0 (still_open r.stage b.1))

-- so the tree tells
pub shut_there : (c : Config) (e : InEpoch) (w : World) (file : FileId) (stamp : Stamp) (css : ℕ) → RoundFacts c w → length c.packs ≤ 4 → AreTogether w e → sync_site c e.members file.group ≡ Some css → Stands c w.trace file stamp → NobodyHasOpen c e (place_at w) file → IsShut c e file w.trace
shut_there c e w file stamp css facts groups together sync stands nobody = ap (map opener_of) (shut_in c e w file stamp css facts groups together sync stands nobody)

-- from a part of the trace to itself
pub shut_itself : (c : Config) (e : InEpoch) (file : FileId) (t : List Line) → IsShut c e file t → IsShutFrom c e file t t
shut_itself c e file t shut more since now a b = subst (λ (l : List Line). IsShut c e file l) (by_more more a) shut
  where
    none : (more : List Line) → length t ≡ length more + length now → length now ≡ length since + length t → length more ≡ 0
    none m p q = omega (arith, p, q)

    by_more : (m : List Line) → t ≡ m ++ now → t ≡ now
    by_more [] p = p
    by_more (x ∷ xs) p = absurd (some_long (none (x ∷ xs) (ap length p ∙ length-append (x ∷ xs) now) (ap length b ∙ length-append since t)))
      where
        some_long : suc (length xs) ≡ 0 → ⊥
        some_long q = omega (arith, q)
