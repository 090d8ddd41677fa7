-- Whose instance was granted, refused or released is one of sites 1 to 16.
use Rattle.std.proofs.Common.{◌≡◌, ◌≤◌, ℕ, List, [], ◌∷◌, sym, ap, ◌∙◌, subst, inl, inr}
use Rattle.locus_ids.specs.declared.config.Config.{Config}
use Rattle.locus_ids.specs.declared.ids.CallId.{CallId}
use Rattle.locus_ids.specs.declared.ids.EpochId.{EpochId}
use Rattle.locus_ids.specs.declared.ids.Serial.{Serial}
use Rattle.locus_ids.specs.Sizes.{sites_max}
use Rattle.trace_book.specs.declared.record.Record.{Record}
use Rattle.trace_book.specs.declared.record.Record.TheVariants as says
use Rattle.role_steps.specs.Views.{Told, Shown}
use Rattle.the_run.specs.Worlds.{Line}
use Rattle.lawful_trace.specs.TreeRows.{IsCallIn}
use Rattle.tree_laws.specs.Following.{IsFollowed, MayTell}
use Rattle.tree_laws.specs.Past.{NamingRecord, Printed, WasNamed, WasReleased}
use Rattle.tree_laws.specs.Printed.{entries}
use Rattle.store_laws.proofs.Holdings.Released.{released_named}
use Rattle.store_laws.specs.OneTree.Rest.{EachRest, Past}
use Rattle.rest_laws.proofs.StoreStepKnown.{known_call}

pub named_low : (c : Config) (t : List Line) → IsFollowed c t → EachRest c t → (e : EpochId) (i : Serial) → WasNamed t e i → i.us ≤ sites_max
named_low c [] h g e i k = absurd k
named_low c (x ∷ older) h g e i (inr k) = named_low c older h.1 g.1 e i k
named_low c (x ∷ older) h g e i (inl k) = over x.told h.0 k
  where
    called : (at : EpochId) (d : CallId) (inst : Serial) → inst ≡ i → inst.us ≡ d.site → IsCallIn (entries older) at d → i.us ≤ sites_max
    called at d inst is user inside = subst (λ (s : ℕ). s ≤ sites_max) (sym user ∙ ap (λ (j : Serial). j.us) is) (known_call c older h.1 g.1 d inside.accepted inside.named).site.high

    of : (r : Record) → MayTell c older (Shown r) → NamingRecord e i older r → i.us ≤ sites_max
    of (says.Grant at call request inst m file stamp ss) may k = called at call inst k.serial_is may.in_time.opens.user_is may.in_time.opens.asks.inside
    of (says.Refuse at call request inst m file why) may k = called at call inst k.serial_is may.in_time.opens.user_is may.in_time.opens.asks.inside
    of r may k = absurd k

    over : (y : Told) → MayTell c older y → Printed (NamingRecord e i) older y → i.us ≤ sites_max
    over (Shown r) may k = of r may k
    over y may k = absurd k

pub released_low : (c : Config) (t : List Line) → Past c t → (e : EpochId) (i : Serial) → WasReleased t e i → i.us ≤ sites_max
released_low c t past e i k = named_low c t past.followed past.rest.each e i (released_named c t past.followed e i k)
