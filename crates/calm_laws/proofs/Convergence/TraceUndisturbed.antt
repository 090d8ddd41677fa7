-- Where nobody has a file open in the one tree of an epoch, so it is at the synchronization site of its group.
use Rattle.std.proofs.Common.{◌≡◌, ℕ, Bool, true, false, cond, ◌&&◌, List, [], ◌∷◌, map, filter, refl, sym, ◌∙◌, ap, subst, inl, inr}
use Rattle.role_steps.proofs.of_plain_facts.Tests.{true_false}
use Rattle.locus_ids.specs.declared.config.Config.{Config}
use Rattle.locus_ids.specs.declared.ids.FileId.{FileId}
use Rattle.locus_ids.specs.declared.ids.Serial.{Serial}
use Rattle.commit_graph.specs.Versions.{same_file}
use Rattle.commit_graph.specs.Grants.{Opener}
use Rattle.role_steps.specs.Adoption.{table_group}
use Rattle.role_steps.specs.Opens.{is_open_on, is_open_stage}
use Rattle.role_steps.specs.declared.rounds.InEpoch.{InEpoch}
use Rattle.role_steps.specs.declared.synchronizing.OpenStage.{OpenStage}
use Rattle.role_steps.specs.declared.synchronizing.OpenStage.TheVariants as stage
use Rattle.the_run.specs.Kept.{Among}
use Rattle.the_run.specs.Worlds.{World, place_at}
use Rattle.tree_model.specs.State.{openers, opener_of}
use Rattle.tree_model.specs.Tree.{tree_of}
use Rattle.tree_model.specs.declared.instance.Instance.{Instance}
use Rattle.tree_laws.specs.Packets.{file_in}
use Rattle.tree_laws.specs.Printed.{entries}
use Rattle.tree_laws.specs.Tables.{TableFact, named_row, named_openers, named_instance, tree_openers}
use Rattle.store_laws.specs.OneTree.Places.{WorldFact}
use Rattle.row_laws.specs.Orderly.Calm.{AreTogether}
use Rattle.calm_laws.specs.Carrying.{frame_of}
use Rattle.calm_laws.proofs.Delivered.{inside_fact}
use Rattle.calm_laws.proofs.Lists.{every_among, row_key}
use Rattle.calm_laws.proofs.Members.{sync_is}
use Rattle.calm_laws.specs.Convergence.Copies.{IsOpenStill, NobodyHasOpen}

pub among_passing : {A : Type 0} (p : A → Bool) (x : A) (xs : List A) → Among x xs → p x ≡ true → Among x (filter p xs)
among_passing p x [] a h = absurd a
among_passing {A = A} p x (y ∷ ys) a h = over (p y) refl a (λ m. among_passing p x ys m h)
  where
    over : (b : Bool) → p y ≡ b → Among x (y ∷ ys) → (Among x ys → Among x (filter p ys)) → Among {A = A} x (cond b (y ∷ filter p ys) (filter p ys))
    over true k (inl e) f = inl e
    over true k (inr m) f = inr (f m)
    over false k (inl e) f = absurd (true_false (sym h ∙ (ap p e ∙ k)))
    over false k (inr m) f = f m

mapped_there : {A B : Type 0} (g : A → B) (x : A) (xs : List A) → Among x xs → Among (g x) (map g xs)
mapped_there g x [] a = absurd a
mapped_there g x (y ∷ ys) (inl e) = inl (ap g e)
mapped_there g x (y ∷ ys) (inr a) = inr (mapped_there g x ys a)

none_mapped : {A B C : Type 0} (g : A → B) (h : A → C) (xs : List A) → map g xs ≡ [] → map h xs ≡ []
none_mapped g h [] e = refl
none_mapped g h (x ∷ xs) e = absurd (cons_not (g x) (map g xs) e)
  where
    cons_not : {B : Type 0} (y : B) (ys : List B) → y ∷ ys ≡ [] → ⊥
    cons_not y ys q = cc

still_open : (g : OpenStage) → IsOpenStill g → is_open_stage g ≡ true
still_open stage.Asked h = refl
still_open stage.Granted h = refl
still_open (stage.Refused why) h = absurd h
still_open stage.Ended h = absurd h

pub closed_at : (c : Config) (e : InEpoch) (w : World) → WorldFact c w → AreTogether w e → (f : FileId) → (f.ino ≡ 0 → ⊥) → openers (tree_of c e.id f.group (entries w.trace)) f ≡ [] → NobodyHasOpen c e (place_at w) f
closed_at c e w fact together f numbered none css v t r synced here found among same still = subst (λ (l : List (Serial × Opener)). Among (named_row r) l) (named ∙ tree_none) there
  where
    at_table : Among t v.tables × (t.group ≡ f.group)
    at_table = row_key table_group f.group v.tables t found

    table : TableFact c w.trace (frame_of c e css) t
    table = every_among (TableFact c w.trace (frame_of c e css)) t v.tables at_table.0 (inside_fact c e w css v fact together (sync_is c e f.group css synced).1 here).tables

    named : named_openers t f ≡ tree_openers (tree_of c e.id f.group (entries w.trace)) f
    named = subst (λ (g : ℕ). named_openers t (file_in g f.ino) ≡ tree_openers (tree_of c e.id g (entries w.trace)) (file_in g f.ino)) at_table.1 (table.openers_are f.ino numbered)

    tree_none : tree_openers (tree_of c e.id f.group (entries w.trace)) f ≡ []
    tree_none = none_mapped opener_of named_instance (filter (λ (x : Instance). same_file x.grant.file f) (tree_of c e.id f.group (entries w.trace)).instances) none

    there : Among (named_row r) (named_openers t f)
    there = mapped_there named_row r (filter (is_open_on f) t.opens) (among_passing (is_open_on f) r t.opens among (ap (λ (b : Bool). b && is_open_stage r.stage) same ∙ still_open r.stage still))
