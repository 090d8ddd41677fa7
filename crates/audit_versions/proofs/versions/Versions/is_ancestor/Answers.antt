use Rattle.std.proofs.Common.{◌≡◌, ap, sym, ◌∙◌, true, nat_le}
use Rattle.audit_versions.specs.Regular.{is_regular}
use Rattle.audit_versions.proofs.Told.{tells, absent_tells, stranger_tells}
use Rattle.audit_versions.proofs.versions.Versions.is_ancestor.Goals as goal

pub returns-then-not-has : goal.returns-then-not-has
returns-then-not-has c = c.is_same.ensures ∙ sym (absent_tells c.args.file c.args.self.now c.args.a c.args.b (sym c.if-not-has.ensures))

pub returns-then-has : goal.returns-then-has
returns-then-has c =
    let regular : is_regular c.args.self.now ≡ true = ap is_regular (sym c.self.view_is) ∙ (sym c.self.invariant.told ∙ c.if-not-self.false) in
    ap (nat_le c.args.a.n) c.counter.ensures.value ∙ sym (tells c.args.file c.args.self.now regular c.args.a c.args.b (sym c.if-has.ensures) (sym c.if-not-has.ensures))

pub returns-else-has : goal.returns-else-has
returns-else-has c =
    let regular : is_regular c.args.self.now ≡ true = ap is_regular (sym c.self.view_is) ∙ (sym c.self.invariant.told ∙ c.if-not-self.false) in
    c.if-has.false ∙ sym (stranger_tells c.args.file c.args.self.now regular c.args.a c.args.b (sym c.if-has.ensures) (sym c.if-not-has.ensures))
