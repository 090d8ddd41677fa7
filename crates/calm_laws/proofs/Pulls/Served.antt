-- A group has started only where some member of the epoch has a pack of it.
use Rattle.std.proofs.Common.{◌≡◌, ℕ, ◌==◌, Bool, true, false, ◌&&◌, List, [], ◌∷◌, Option, Some, None, refl, sym, ◌∙◌, ap, subst, arith}
use Rattle.std.proofs.lemmas.Bool.Decides.{nat_tests}
use Rattle.std.specs.Option.{is_some}
use Rattle.role_steps.proofs.of_plain_facts.Tests.{true_false}
use Rattle.locus_ids.specs.declared.config.Config.{Config}
use Rattle.locus_ids.specs.declared.ids.EpochId.{EpochId}
use Rattle.locus_ids.specs.declared.sites.Members.{Members}
use Rattle.trace_book.specs.Same.{same_epoch}
use Rattle.trace_book.specs.declared.record.Record.{Record}
use Rattle.trace_book.specs.declared.record.Record.TheVariants as says
use Rattle.role_steps.specs.Views.{Frame, Told, Shown}
use Rattle.the_run.specs.Worlds.{Line}
use Rattle.tree_model.specs.Epochs.{members_of}
use Rattle.tree_model.specs.Folds.{Trace}
use Rattle.tree_model.specs.Histories.{history}
use Rattle.tree_model.specs.Packs.{sync_site}
use Rattle.tree_model.specs.Tree.{tree_of}
use Rattle.lawful_trace.specs.Progress.{is_packed_in}
use Rattle.lawful_trace.specs.TreeRows.{has_joined_some}
use Rattle.tree_laws.specs.Following.{IsFollowed, MayTell}
use Rattle.tree_laws.specs.Instances.{IsStarted}
use Rattle.tree_laws.specs.Printed.{entries, onto_entries}
use Rattle.tree_laws.proofs.Fresh.{IsListed}
use Rattle.tree_laws.proofs.Mending.{members_stay}
use Rattle.tree_laws.proofs.Names.{same_epoch_eq}
use Rattle.store_laws.proofs.of_tree_laws.Orders.Alone.{tree_named}
use Rattle.store_laws.proofs.of_tree_laws.Syncs.Trees.{started_same}

packed_listed : (c : Config) (t : Trace) (e : EpochId) (g : ℕ) → is_packed_in c t (Some e) g ≡ true → IsListed t e
packed_listed c t e g k = over (members_of t e) refl k
  where
    over : (o : Option Members) → members_of t e ≡ o → is_some (sync_site c g o) ≡ true → IsListed t e
    over None h q = absurd (true_false (sym q))
    over (Some m) h q = (m, h)

packed_stays : (c : Config) (n : ℕ) (x : Told) (older : List Line) (e : EpochId) (g : ℕ) → MayTell c older x → is_packed_in c (entries older) (Some e) g ≡ true → is_packed_in c (onto_entries n x (entries older)) (Some e) g ≡ true
packed_stays c n x older e g may k = ap (λ (m : Option Members). is_some (sync_site c g m)) (members_stay c n x older e may (packed_listed c (entries older) e g k)) ∙ k

served_packed : (t : Trace) (e : EpochId) (o : Option ℕ) → has_joined_some t e o ≡ true → is_some o ≡ true
served_packed t e None k = absurd (true_false (sym k))
served_packed t e (Some s) k = refl

pub started_packed : (c : Config) (t : List Line) → IsFollowed c t → (e : EpochId) (g : ℕ) → IsStarted c t e g → is_packed_in c (entries t) (Some e) g ≡ true
started_packed c [] h e g s = absurd (true_false (sym s))
started_packed c (x ∷ older) h e g s = over x.told h.0 s (started_packed c older h.1 e g)
  where
    Before : Type 0
    Before = IsStarted c older e g → is_packed_in c (entries older) (Some e) g ≡ true

    f : Frame
    f = record { config = c; me = 0; boot = 0; epoch = e; members = record { boot = [] } }

    named : ((tree_of c e g (entries older)).epoch ≡ e) × ((tree_of c e g (entries older)).group ≡ g)
    named = tree_named c e g (entries older)

    equal : (a b : ℕ) → (a == b) ≡ true → a ≡ b
    equal a b q = grind (arith, nat_tests)

    start : (d : EpochId) (k : ℕ) → has_joined_some (entries older) d (sync_site c k (members_of (entries older) d)) ≡ true → (a b : Bool) → same_epoch d e ≡ a → (k == g) ≡ b → ((a && b ≡ false) → is_packed_in c (entries older) (Some e) g ≡ true) → is_packed_in c (entries older) (Some e) g ≡ true
    start d k served true true p q later = subst (λ (i : EpochId). is_packed_in c (entries older) (Some i) g ≡ true) (same_epoch_eq d e p) (subst (λ (i : ℕ). is_packed_in c (entries older) (Some d) i ≡ true) (equal k g q) (served_packed (entries older) d (sync_site c k (members_of (entries older) d)) served))
    start d k served true false p q later = later refl
    start d k served false b p q later = later refl

    apart : (d : EpochId) (k : ℕ) → (same_epoch d e && (k == g)) ≡ false → (d ≡ e) × (k ≡ g) → ⊥
    apart d k unlike both = true_false (sym (subst (λ (i : EpochId). (same_epoch i e && (k == g)) ≡ true) (sym both.0) (subst (λ (i : ℕ). (same_epoch e e && (i == g)) ≡ true) (sym both.1) (same e g))) ∙ unlike)
      where
        same : (i : EpochId) (j : ℕ) → (same_epoch i i && (j == j)) ≡ true
        same i j = grind (arith, nat_tests)

    printed : (r : Record) → MayTell c older (Shown r) → (tree_of c e g (onto_entries x.number (Shown r) (entries older))).started ≡ true → Before → is_packed_in c (entries older) (Some e) g ≡ true
    printed (says.Start d k copies) may now before = start d k may.row.served (same_epoch d e) (k == g) refl refl
        (λ unlike. before (sym (started_same (history c (entries older)) (tree_of c e g (entries older)) f g named.0 named.1 (says.Start d k copies) (apart d k unlike)) ∙ now))
    printed r may now before = before (sym (started_same (history c (entries older)) (tree_of c e g (entries older)) f g named.0 named.1 r (λ a. a)) ∙ now)

    over : (y : Told) → MayTell c older y → (tree_of c e g (onto_entries x.number y (entries older))).started ≡ true → Before → is_packed_in c (onto_entries x.number y (entries older)) (Some e) g ≡ true
    over (Shown r) may now before = packed_stays c x.number (Shown r) older e g may (printed r may now before)
    over y may now before = packed_stays c x.number y older e g may (before now)
