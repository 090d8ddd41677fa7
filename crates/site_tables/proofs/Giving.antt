-- What is given by one thing after another.
use Rattle.std.proofs.Common.{◌≡◌, ◌++◌, append_assoc, append-nil, refl, sym, ap, ◌∙◌, subst}
use Rattle.wire_messages.specs.Outboxes.{Outgoing}
use Rattle.site_frame.specs.Printed.{printed}
use Rattle.site_frame.proofs.Printing.{printed_append}
use Rattle.role_steps.specs.Views.{Outcome, quiet, and_then, within}
use Rattle.using_site.specs.Steps.{Gives}

pub gives_none : {V : Type 0} (v : V) (out : Outgoing) → Gives (quiet v) v out out
gives_none v out = record { view = refl; packets = sym (append-nil out.packets); records = sym (append-nil out.records) }

pub gives_as : {V : Type 0} (o p : Outcome V) (new : V) (a b : Outgoing) → p ≡ o → Gives o new a b → Gives p new a b
gives_as o p new a b e g = subst (λ q. Gives q new a b) (sym e) g

-- one thing, and then another
pub gives_then : {V W : Type 0} (o : Outcome V) (p : V → Outcome W) (mid : V) (new : W) (a b c : Outgoing) → Gives o mid a b → Gives (p mid) new b c → Gives (and_then o p) new a c
gives_then {W = W} o p mid new a b c g h = joined (subst (λ v. Gives (p v) new b c) g.view h) where
  joined : Gives (p o.view) new b c → Gives (and_then o p) new a c
  joined k = record {
    view = k.view;
    packets = k.packets ∙ (ap (λ xs. xs ++ (p o.view).sent) g.packets ∙ append_assoc a.packets o.sent (p o.view).sent);
    records = k.records ∙ (ap (λ xs. xs ++ printed (p o.view).told) g.records ∙ (append_assoc a.records (printed o.told) (printed (p o.view).told) ∙ ap (λ xs. a.records ++ xs) (sym (printed_append o.told (p o.view).told))));
  }

-- the outcome of a part, in the site around it
pub gives_within : {V W : Type 0} (whole : V → W) (o : Outcome V) (new : V) (a b : Outgoing) → Gives o new a b → Gives (within whole o) (whole new) a b
gives_within whole o new a b g = record { view = ap whole g.view; packets = g.packets; records = g.records }
