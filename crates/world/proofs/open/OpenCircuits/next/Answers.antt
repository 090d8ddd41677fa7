use Rattle.std.proofs.Common.{sym, subst}
use Rattle.circuits.specs.Circuits.{TellsUp}
use Rattle.world.specs.Reached.{TellsLinks, AreOf, boots_of}
use Rattle.world.proofs.open.OpenCircuits.next.Goals.{then-not-are_told, else-not-are_told}
use Rattle.world.proofs.open.OpenCircuits.next.Goals as goal

pub returns-clause-value : goal.returns-clause-value
returns-clause-value c =
    let now = c.args.self.now in
    let boots = boots_of c.args.places.now in
    let inside = c.self.inside in
    let told : TellsUp c.if-not-are_told.self-inside.tables.up now boots = elim c.if-not-are_told.branch [
      | then-not-are_told w ↦
          subst (λ i. TellsUp i.tables.up now boots) (sym w.self-inside-is) (subst (λ u. TellsUp w.tell_again.new.tables.up u boots) c.self.view_is w.tell_again.ensures.up)
      | else-not-are_told w ↦
          subst (λ i. TellsUp i.tables.up now boots) (sym w.self-inside-is) (subst (λ u. TellsUp inside.tables.up u boots) c.self.view_is (subst (λ b. TellsUp inside.tables.up inside.cuts b) (c.are_told.ensures w.if-not-are_told.false) c.self.invariant.0))
    ] in
    (c.if-not-are_told.self-inside.tables.up, (told, c.next.ensures.value))

pub invariant_of-self : goal.invariant_of-self
invariant_of-self c =
    let inside = c.self.inside in
    elim c.if-not-are_told.branch [
      | then-not-are_told w ↦
          let t = w.tell_again.new.tables in
          let e = w.tell_again.ensures in
          subst (λ i. TellsUp i.tables.up i.cuts i.tables.boots × (TellsLinks i.tables.links i.cuts i.tables.boots × AreOf i.tables.sites i.tables.boots)) (sym w.self-inside-is)
          (subst (λ b. TellsUp t.up inside.cuts b) (sym e.boots) e.up, (subst (λ b. TellsLinks t.links inside.cuts b) (sym e.boots) e.links, e.sites))
      | else-not-are_told w ↦
          subst (λ i. TellsUp i.tables.up i.cuts i.tables.boots × (TellsLinks i.tables.links i.cuts i.tables.boots × AreOf i.tables.sites i.tables.boots)) (sym w.self-inside-is) c.self.invariant
    ]
