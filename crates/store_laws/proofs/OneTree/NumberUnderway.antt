-- A make that its storage site has begun is underway in the tree until the site has its file.
use Rattle.std.proofs.Common.{◌≡◌, ℕ, true, false, List, [], ◌∷◌, Option, Some, None, refl, sym, ◌∙◌, ap, subst, ◌⊎◌, inl, inr}
use Rattle.std.specs.Option.{option_map}
use Rattle.role_steps.proofs.of_plain_facts.Options.{some_same}
use Rattle.role_steps.proofs.of_plain_facts.Tests.{true_false}
use Rattle.locus_ids.specs.declared.config.Config.{Config}
use Rattle.locus_ids.specs.declared.ids.CallId.{CallId}
use Rattle.locus_ids.specs.declared.ids.EpochId.{EpochId}
use Rattle.locus_ids.specs.declared.ids.FileId.{FileId}
use Rattle.locus_ids.specs.declared.ids.Kind.{Kind}
use Rattle.locus_ids.specs.declared.ids.Mode.{Mode}
use Rattle.locus_ids.specs.declared.ids.Mode.TheVariants as mode
use Rattle.locus_ids.specs.declared.ids.Serial.{Serial}
use Rattle.locus_ids.specs.declared.ids.Stamp.{Stamp}
use Rattle.locus_ids.specs.declared.sites.Members.{Members}
use Rattle.locus_ids.specs.declared.sites.Sites.{Sites}
use Rattle.locus_ids.specs.declared.refusal.Refusal.{Refusal}
use Rattle.trace_book.specs.declared.record.Record.{Record}
use Rattle.trace_book.specs.declared.record.Record.TheVariants as says
use Rattle.wire_messages.specs.declared.body.Opening.{Opening}
use Rattle.wire_messages.specs.declared.body.Opening.TheVariants as how
use Rattle.role_steps.specs.Opens.{mode_of}
use Rattle.role_steps.specs.Views.{Told, Shown, Begins}
use Rattle.the_run.specs.Kept.{Among}
use Rattle.the_run.specs.Worlds.{Line}
use Rattle.tree_model.specs.declared.accepted.Waiting.{Waiting}
use Rattle.tree_model.specs.declared.instance.Instance.{Instance}
use Rattle.tree_model.specs.Calls.{call_named}
use Rattle.tree_model.specs.Epochs.{members_of}
use Rattle.tree_model.specs.Files.{words_named}
use Rattle.tree_model.specs.Histories.{history}
use Rattle.tree_model.specs.Opening.{sites_made}
use Rattle.tree_model.specs.Packs.{is_good_set, making_site_in, packs_of}
use Rattle.tree_model.specs.State.{TreeState, instance_in, is_named}
use Rattle.tree_model.specs.Tree.{next, tree_of}
use Rattle.tree_laws.specs.of_lawful_trace.TreeRows.{IsCallIn}
use Rattle.tree_laws.specs.Following.{IsFollowed, MayTell, OpensInTime, RefusesMake}
use Rattle.tree_laws.specs.Instances.{AsksOpen, instance_now}
use Rattle.tree_laws.specs.Past.{WasBegun}
use Rattle.tree_laws.specs.Printed.{entries}
use Rattle.tree_laws.proofs.CarriedLooks.{More}
use Rattle.tree_laws.proofs.Kinship.{tree_epoch_is, tree_group_is}
use Rattle.tree_laws.proofs.Making.{members_told}
use Rattle.tree_laws.proofs.Scripts.{in_stays, named_stays}
use Rattle.tree_laws.proofs.Orders.Lists.{all_found}
use Rattle.store_laws.specs.Holdings.Below.{LawsBelow}
use Rattle.store_laws.specs.Holdings.Held.{StandsOnHeld}
use Rattle.store_laws.proofs.Holdings.Below.{laws_before}
use Rattle.store_laws.proofs.Holdings.Distinct.{open_now}
use Rattle.store_laws.proofs.Holdings.Holding.{stands_on_held}
use Rattle.store_laws.proofs.Begun.{begun_one}
use Rattle.store_laws.proofs.Said.{asked_as_said}
use Rattle.store_laws.specs.OneTree.MakeCallMade.{AsksMake}
use Rattle.store_laws.proofs.OneTree.MakeCallOnce.{calls_make_once, one_make}
use Rattle.store_laws.proofs.OneTree.MakeCallProbed.{makes_have_probed}
use Rattle.store_laws.proofs.OneTree.MakeCallProbing.{EndsMake, makes_stay}
use Rattle.store_laws.proofs.OneTree.NumberHeld.{HasSome, some_stays}
use Rattle.store_laws.proofs.OneTree.NumberMade.{IsOpenMake, MakesAt, WasMadeAt, made_begun, made_for, open_makes}
use Rattle.store_laws.proofs.OneTree.NumberOwed.{IsOwed, all_owed}

-- ---- a make that is underway ----

pub record Making (c : Config) (trace : List Line) (e : EpochId) (ss : ℕ) (f : FileId) (d : CallId) : Type 0 where
  pub set : Sites
  pub inside : IsCallIn (entries trace) e d
  pub among : Among d (tree_of c e f.group (entries trace)).makes
  pub said : set ≡ sites_made (packs_of c f.group) (words_named (entries trace) (Some d))
  pub good : is_good_set c f.group (members_of (entries trace) e) set ≡ true
  pub at : making_site_in c f.group (members_of (entries trace) e) d.site set ≡ Some ss

-- what opens as a make is one
make_of : (it : Opening) → mode_of it ≡ mode.Make → (set : Sites) × (k : Kind) × (it ≡ how.Make set k)
make_of (how.Make set k) e = (set, k, refl)
make_of how.Read e = absurd (cc)
make_of how.Write e = absurd (cc)
make_of how.Mend e = absurd (cc)
make_of (how.Resolve site) e = absurd (cc)

module _ (c : Config) (older : List Line) (followed : IsFollowed c older) (e : EpochId) (ss : ℕ) (i : Serial) (f : FileId) (d : CallId) (made : WasMadeAt c older e ss i f d) (old : Making c older e ss f d) where
  abbrev t : TreeState
  t = tree_of c e f.group (entries older)

  epoch_is : t.epoch ≡ e
  epoch_is = tree_epoch_is c e f.group (entries older)

  -- a make that was begun isn't refused
  unrefused : (at : EpochId) (call : CallId) (request : ℕ) (inst : Serial) (m : Mode) (g : FileId) (why : Refusal) → MayTell c older (Shown (says.Refuse at call request inst m g why)) → EndsMake t d (says.Refuse at call request inst m g why) → ⊥
  unrefused at call request inst m g why may leaves = over (subst (RefusesMake c older at call inst g why) (make_of may.in_time.opens.it (may.in_time.opens.mode_is ∙ leaves.2)).2 may.in_time.make)
    where
      opens : OpensInTime c older at call request inst m g
      opens = may.in_time.opens

      it : (set : Sites) × (k : Kind) × (opens.it ≡ how.Make set k)
      it = make_of opens.it (opens.mode_is ∙ leaves.2)

      same_epoch_is : at ≡ e
      same_epoch_is = leaves.0 ∙ epoch_is

      same_group : g.group ≡ f.group
      same_group = leaves.1 ∙ tree_group_is c e f.group (entries older)

      first : AsksMake c older at call inst f.group it.0
      first = record {
        request = request;
        file = opens.asked;
        kind = it.1;
        asks = subst (λ (y : Opening). AsksOpen c older at call request inst.serial opens.asked y) it.2 opens.asks;
        user_is = opens.user_is;
        group_is = sym opens.group_is ∙ same_group;
      }

      asks : AsksMake c older e d inst f.group it.0
      asks = subst (λ (y : CallId). AsksMake c older e y inst f.group it.0) leaves.3 (subst (λ (y : EpochId). AsksMake c older y call inst f.group it.0) same_epoch_is first)

      same_inst : i ≡ inst
      same_inst = one_make c older followed e d i inst f.group it.0 (made_for c older e ss i f d made) asks

      set_is : it.0 ≡ old.set
      set_is = subst (λ (n : ℕ). it.0 ≡ sites_made (packs_of c n) (words_named (entries older) (Some d))) asks.group_is (asked_as_said c older e d asks.request inst.serial asks.file it.0 asks.kind asks.asks).0 ∙ sym old.said

      over : RefusesMake c older at call inst g why (how.Make it.0 it.1) → ⊥
      over (inl none) = none.unbegun ss f (subst (λ (y : EpochId). WasBegun older ss y inst f) (sym same_epoch_is) (subst (λ (j : Serial). WasBegun older ss e j f) same_inst (made_begun c older e ss i f d made)))
      over (inr bad) = true_false (sym old.good ∙ subst (λ (s : Sites). is_good_set c f.group (members_of (entries older) e) s ≡ false) set_is
          (subst (λ (n : ℕ). is_good_set c n (members_of (entries older) e) it.0 ≡ false) same_group (subst (λ (y : EpochId). is_good_set c g.group (members_of (entries older) y) it.0 ≡ false) same_epoch_is bad)))

  -- what is released was committed
  held_then : (at : EpochId) (inst : Serial) (g : FileId) (stamp : Option Stamp) → MayTell c older (Shown (says.Release at inst g stamp)) → EndsMake t d (says.Release at inst g stamp) → HasSome c older e ss f
  held_then at inst g stamp may leaves = subst (λ (y : FileId). HasSome c older e ss y) (sym place.1) (subst (λ (y : ℕ). HasSome c older e y x.grant.file) (sym place.0) (over x.work.committed refl))
    where
      x : Instance
      x = leaves.1.0

      found : instance_in t inst ≡ Some x
      found = leaves.1.1

      its : WasMadeAt c older e x.grant.ss x.grant.inst x.grant.file d
      its = subst (λ (y : CallId). WasMadeAt c older e x.grant.ss x.grant.inst x.grant.file y) leaves.1.3 (all_found (IsOpenMake c older e) (is_named inst) t.instances x (open_makes c older followed e f.group) found leaves.1.2)

      same_inst : i ≡ x.grant.inst
      same_inst = calls_make_once c older followed e d i x.grant.inst (made_for c older e ss i f d made) (made_for c older e x.grant.ss x.grant.inst x.grant.file d its)

      place : (ss ≡ x.grant.ss) × (f ≡ x.grant.file)
      place = begun_one c older followed e i ss x.grant.ss f x.grant.file (made_begun c older e ss i f d made) (subst (λ (j : Serial). WasBegun older x.grant.ss e j x.grant.file) (sym same_inst) (made_begun c older e x.grant.ss x.grant.inst x.grant.file d its))

      now : instance_now c older e inst ≡ Some x
      now = open_now c older followed e f.group inst x found

      at_is : may.in_time.at ≡ x
      at_is = some_same may.in_time.at x (sym (subst (λ (y : EpochId). instance_now c older y inst ≡ Some may.in_time.at) (leaves.0 ∙ epoch_is) may.in_time.open_at.found) ∙ now)

      clean : x.work.owes ≡ false
      clean = ap (λ (y : Instance). y.work.owes) (sym at_is) ∙ may.in_time.owes

      seat : StandsOnHeld c (entries older) e x
      seat = stands_on_held c older followed e inst x now

      over : (o : Option Stamp) → x.work.committed ≡ o → HasSome c older e x.grant.ss x.grant.file
      over None k = absurd (true_false (sym (all_found IsOwed (is_named inst) t.instances x (all_owed c e f.group (entries older)) found leaves.1.2 k) ∙ clean))
      over (Some s) k = (s, sym seat.last_is ∙ seat.made s k)

  -- one line later
  leaves_held : (r : Record) → MayTell c older (Shown r) → EndsMake t d r → HasSome c older e ss f
  leaves_held (says.Refuse at call request inst m g why) may leaves = absurd (unrefused at call request inst m g why may leaves)
  leaves_held (says.Release at inst g stamp) may leaves = held_then at inst g stamp may leaves
  leaves_held r may leaves = absurd leaves

  making_more : (n : ℕ) (y : Told) → MayTell c older y → HasSome c older e ss f ⊎ Making c (More n y older) e ss f d
  making_more n y may = over y may (in_stays c n y older e d followed may old.inside) (members_told c n y older e d may old.inside) (named_stays c n y older d followed may (old.inside.accepted, old.inside.named))
    where
      more : (z : Told) → IsCallIn (entries (More n z older)) e d → members_of (entries (More n z older)) e ≡ members_of (entries older) e → call_named (entries (More n z older)) d ≡ call_named (entries older) d → Among d (tree_of c e f.group (entries (More n z older))).makes → Making c (More n z older) e ss f d
      more z inside members named among = record {
        set = old.set;
        inside = inside;
        among = among;
        said = old.said ∙ ap (λ (o : Option Waiting). sites_made (packs_of c f.group) (option_map (λ (w : Waiting). w.words) o)) (sym named);
        good = subst (λ (o : Option Members). is_good_set c f.group o old.set ≡ true) (sym members) old.good;
        at = subst (λ (o : Option Members). making_site_in c f.group o d.site old.set ≡ Some ss) (sym members) old.at;
      }

      shown : (r : Record) → MayTell c older (Shown r) → (Among d (next (history c (entries older)) r t).makes → Making c (More n (Shown r) older) e ss f d) → EndsMake t d r ⊎ Among d (next (history c (entries older)) r t).makes → HasSome c older e ss f ⊎ Making c (More n (Shown r) older) e ss f d
      shown r m then (inl leaves) = inl (leaves_held r m leaves)
      shown r m then (inr among) = inr (then among)

      over : (z : Told) → MayTell c older z → IsCallIn (entries (More n z older)) e d → members_of (entries (More n z older)) e ≡ members_of (entries older) e → call_named (entries (More n z older)) d ≡ call_named (entries older) d → HasSome c older e ss f ⊎ Making c (More n z older) e ss f d
      over (Shown r) m inside members named = shown r m (more (Shown r) inside members named) (makes_stay (history c (entries older)) t d old.among r)
      over z m inside members named = inr (more z inside members named old.among)

-- what was begun as a make is held, or its call is among the makes
pub underway : (c : Config) (trace : List Line) → IsFollowed c trace → LawsBelow c trace → (e : EpochId) (ss : ℕ) (i : Serial) (f : FileId) (d : CallId) → WasMadeAt c trace e ss i f d → HasSome c trace e ss f ⊎ Making c trace e ss f d
underway c [] followed laws e ss i f d made = absurd made
underway c (x ∷ older) followed laws e ss i f d (inr made) = over (underway c older followed.1 (laws_before c x older laws) e ss i f d made)
  where
    held : HasSome c older e ss f → HasSome c (x ∷ older) e ss f
    held k = some_stays c x older followed laws e ss f k

    then : HasSome c older e ss f ⊎ Making c (x ∷ older) e ss f d → HasSome c (x ∷ older) e ss f ⊎ Making c (x ∷ older) e ss f d
    then (inl k) = inl (held k)
    then (inr w) = inr w

    over : HasSome c older e ss f ⊎ Making c older e ss f d → HasSome c (x ∷ older) e ss f ⊎ Making c (x ∷ older) e ss f d
    over (inl k) = inl (held k)
    over (inr w) = then (making_more c older followed.1 e ss i f d made w x.number x.told followed.0)
underway c (x ∷ older) followed laws e ss i f d (inl made) = inr (over x.told made)
  where
    over : (y : Told) → MakesAt c e ss i f d older y → Making c (More x.number y older) e ss f d
    over (Begins s at inst file) k = record {
      set = k.1.set;
      inside = k.1.asks.asks.inside;
      among = makes_have_probed c older followed.1 e d i f.group k.1.set k.1.asks;
      said = subst (λ (n : ℕ). k.1.set ≡ sites_made (packs_of c n) (words_named (entries older) (Some d))) k.1.asks.group_is (asked_as_said c older e d k.1.asks.request i.serial k.1.asks.file k.1.set k.1.asks.kind k.1.asks.asks).0;
      good = k.1.good;
      at = k.1.at;
    }
    over _ k = absurd k
