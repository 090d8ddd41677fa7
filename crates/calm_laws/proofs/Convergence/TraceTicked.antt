-- Between two ticks of a round: its facts stand there too, and members that the records show together are so.
use Rattle.std.proofs.Common.{◌≡◌, ◌≢◌, ℕ, zero, suc, true, List, [], ◌∷◌, ◌++◌, Option, Some, None, refl, sym, ◌∙◌, ap, subst, arith}
use Rattle.std.proofs.lemmas.Bool.Decides.{nat_tests}
use Rattle.std.specs.List.{list_any}
use Rattle.role_steps.proofs.of_plain_facts.Options.{none_some, some_same}
use Rattle.role_steps.proofs.of_plain_facts.Tests.{true_false}
use Rattle.locus_ids.specs.declared.config.Config.{Config}
use Rattle.locus_ids.specs.declared.ids.EpochId.{EpochId}
use Rattle.locus_ids.specs.declared.sites.Members.{Members}
use Rattle.schedule_lines.specs.declared.line.ScheduleLine.{ScheduleLine}
use Rattle.role_steps.specs.Views.{SiteView}
use Rattle.role_steps.specs.declared.rounds.InEpoch.{InEpoch}
use Rattle.tree_model.specs.Epochs.{is_up, epoch_of, members_of}
use Rattle.tree_model.specs.Packs.{boot_in, is_member}
use Rattle.the_run.specs.Runs.{ticks_to}
use Rattle.the_run.specs.Worlds.{World, Place, Running, Stopped, Line, CutCircuit, place_at, is_between}
use Rattle.row_laws.specs.Shown.{trace_of}
use Rattle.row_laws.proofs.Causes.{epoch_standing}
use Rattle.tree_laws.specs.Following.{IsFollowed}
use Rattle.tree_laws.specs.Printed.{entries}
use Rattle.tree_laws.proofs.Mending.{members_stay}
use Rattle.store_laws.specs.OneTree.Places.{SiteIn, WorldFact}
use Rattle.store_laws.specs.OneTree.Rest.{EachRest}
use Rattle.rest_laws.proofs.Shown.{shown_entries}
use Rattle.row_laws.specs.Orderly.Calm.{IsInside, AreTogether}
use Rattle.calm_laws.specs.Carrying.{IsMember}
use Rattle.calm_laws.proofs.Moments.{GoesOn}
use Rattle.calm_laws.proofs.Placed.{Stands}
use Rattle.role_steps.specs.Views as views
use Rattle.lawful_trace.specs.Calm as traced

-- ---- a round's ticks ----

pub ticks_then : (c : Config) (n : ℕ) (xs ys : List ℕ) (w : World) → ticks_to c n (xs ++ ys) w ≡ ticks_to c n ys (ticks_to c n xs w)
ticks_then c n [] ys w = refl
ticks_then c n (x ∷ xs) ys w = ticks_then c n xs ys _

pub rest_earlier : (c : Config) (new old : List Line) → EachRest c (new ++ old) → EachRest c old
rest_earlier c [] old h = h
rest_earlier c (x ∷ xs) old h = rest_earlier c xs old h.1

-- ---- members that are together ----

members_later : (c : Config) (new old : List Line) → IsFollowed c (new ++ old) → (id : EpochId) (m : Members) → members_of (entries old) id ≡ Some m → members_of (entries (new ++ old)) id ≡ Some m
members_later c [] old h id m e = e
members_later c (x ∷ xs) old h id m e = (let r : members_of (entries (xs ++ old)) id ≡ Some m = members_later c xs old h.1 id m e in members_stay c x.number x.told (xs ++ old) id h.0 (m, r) ∙ r)

member_is : (members : Members) (s : ℕ) → boot_in members s ≢ 0 → is_member members s ≡ true
member_is members s h = grind (arith, nat_tests)

boots_same : (members : Members) (s : ℕ) → views.boot_in members.boot s ≡ boot_in members s
boots_same members zero = refl
boots_same members (suc p) = refl

pub together_by : (c : Config) (lines : List ScheduleLine) (id : EpochId) (members : Members) (first w : World) → WorldFact c w → Stands w → GoesOn first w → AreTogether first (record { id = id; members = members }) → members_of (trace_of first) id ≡ Some members → traced.AreTogether c lines (trace_of w) id members →
    AreTogether w (record { id = id; members = members })
together_by c lines id members first w fact stands goes start listed h = record { inside = inside; connected = λ s t m k ne. ap (λ (xs : List CutCircuit). list_any (is_between s t) xs) goes.circuits ∙ start.connected s t m k ne }
  where
    e : InEpoch
    e = record { id = id; members = members }

    now : members_of (entries w.trace) id ≡ Some members
    now = subst (λ (t : List Line). members_of (entries t) id ≡ Some members) (sym goes.trace)
        (members_later c goes.lines first.trace (subst (λ (t : List Line). IsFollowed c t) goes.trace fact.followed) id members (ap (λ t. members_of t id) (sym (shown_entries first.trace)) ∙ listed))

    inside : (s : ℕ) → IsMember (record { id = id; members = members }) s → IsInside w (record { id = id; members = members }) s
    inside s m = by_place (place_at w s) refl
      where
        listed_s : is_member members s ≡ true
        listed_s = member_is members s (λ z. m (boots_same members s ∙ z))

        up : is_up c (entries w.trace) s ≡ true
        up = ap (λ t. is_up c t s) (sym (shown_entries w.trace)) ∙ h.up s listed_s

        in_epoch : epoch_of (entries w.trace) s ≡ Some id
        in_epoch = ap (λ t. epoch_of t s) (sym (shown_entries w.trace)) ∙ h.inside s listed_s

        by_epoch : (v : SiteView) → place_at w s ≡ Some (Running v) → (o : Option InEpoch) → v.epoch ≡ o → SiteIn c s w.trace v o → IsInside w (record { id = id; members = members }) s
        by_epoch v here None is f = absurd (none_some id (sym f.outside ∙ in_epoch))
        by_epoch v here (Some d) is f =
            let same : d.id ≡ id = some_same d.id id (sym f.frame.inside ∙ in_epoch) in
            let list : d.members ≡ members = some_same d.members members (sym f.frame.members_are ∙ (ap (members_of (entries w.trace)) same ∙ now)) in
            record {
              view = v;
              here = here;
              boot = sym f.frame.is_member ∙ ap (λ (x : Members). views.boot_in x.boot s) list;
              epoch = is ∙ (λ i. Some (record { id = same i; members = list i }));
            }

        by_place : (o : Option Place) → place_at w s ≡ o → IsInside w (record { id = id; members = members }) s
        by_place None k = absurd (none_some id (sym (stands.only s k) ∙ (sym (epoch_standing c s w.trace (h.up s listed_s)) ∙ h.inside s listed_s)))
        by_place (Some (Stopped d)) k = absurd (true_false (sym up ∙ (fact.places s (Stopped d) k).stopped))
        by_place (Some (Running v)) k = by_epoch v k v.epoch refl (fact.places s (Running v) k)
