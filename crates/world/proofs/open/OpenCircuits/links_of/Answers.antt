use Rattle.std.proofs.Common.{◌≡◌, List, ℕ, ◌-◌, ◌≤◌, length, get_or, Option, Some, [], sym, ap, subst, ◌∙◌, arith}
use Rattle.std.proofs.lemmas.Option.{slice_get-get_or}
use Rattle.locus_ids.specs.Sizes.{sites_max}
use Rattle.locus_ids.specs.declared.sites.Links.{Links}
use Rattle.the_run.specs.Worlds.{CutCircuit}
use Rattle.circuits.specs.Circuits.{reached_boots, TellsUp}
use Rattle.world.specs.Reached.{TellsLinks, AreOf, boots_of}
use Rattle.world.proofs.open.OpenCircuits.links_of.Goals.{then-not-are_told, else-not-are_told}
use Rattle.world.proofs.open.OpenCircuits.links_of.Goals as goal

found : (links : List Links) (cuts : List CutCircuit) (boots : List ℕ) (s : ℕ) → TellsLinks links cuts boots → 1 ≤ s → s ≤ sites_max → get_or links (s - 1) (record { boot = [] }) ≡ reached_boots cuts boots s
found links cuts boots s t a b =
    let r : length links ≡ sites_max = t.room in
    let d : Links = record { boot = [] } in
    let e : ◌≡◌ {A = Option Links} (Some (get_or links (s - 1) d)) (Some (reached_boots cuts boots s)) = sym (slice_get-get_or links (s - 1) d (omega arith)) ∙ t.each s a b in
    cc

pub returns-clause-links : goal.returns-clause-links
returns-clause-links c =
    let now = c.args.self.now in
    let boots = boots_of c.args.places.now in
    let inside = c.self.inside in
    let told : TellsLinks c.if-not-are_told.self-inside.tables.links now boots = elim c.if-not-are_told.branch [
      | then-not-are_told w ↦
          subst (λ i. TellsLinks i.tables.links now boots) (sym w.self-inside-is) (subst (λ u. TellsLinks w.tell_again.new.tables.links u boots) c.self.view_is w.tell_again.ensures.links)
      | else-not-are_told w ↦
          subst (λ i. TellsLinks i.tables.links now boots) (sym w.self-inside-is) (subst (λ u. TellsLinks inside.tables.links u boots) c.self.view_is (subst (λ b. TellsLinks inside.tables.links inside.cuts b) (c.are_told.ensures w.if-not-are_told.false) c.self.invariant.1.0))
    ] in
    ap (λ k. get_or c.if-not-are_told.self-inside.tables.links (k - 1) (record { boot = [] })) (c.from.ensures ∙ c.get.ensures.value) ∙ found c.if-not-are_told.self-inside.tables.links now boots c.args.from told (omega arith) (omega arith)

pub invariant_of-self : goal.invariant_of-self
invariant_of-self c =
    let inside = c.self.inside in
    elim c.if-not-are_told.branch [
      | then-not-are_told w ↦
          let t = w.tell_again.new.tables in
          let e = w.tell_again.ensures in
          subst (λ i. TellsUp i.tables.up i.cuts i.tables.boots × (TellsLinks i.tables.links i.cuts i.tables.boots × AreOf i.tables.sites i.tables.boots)) (sym w.self-inside-is)
          (subst (λ b. TellsUp t.up inside.cuts b) (sym e.boots) e.up, (subst (λ b. TellsLinks t.links inside.cuts b) (sym e.boots) e.links, e.sites))
      | else-not-are_told w ↦
          subst (λ i. TellsUp i.tables.up i.cuts i.tables.boots × (TellsLinks i.tables.links i.cuts i.tables.boots × AreOf i.tables.sites i.tables.boots)) (sym w.self-inside-is) c.self.invariant
    ]
