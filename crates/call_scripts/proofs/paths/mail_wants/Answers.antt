use Rattle.std.proofs.Common.{◌≡◌, ℕ, List, None, IfOk, sym, ap, subst, ◌∙◌}
use Rattle.locus_ids.specs.declared.ids.Kind.TheVariants.{File}
use Rattle.locus_ids.specs.declared.ids.Serial.{Serial}
use Rattle.call_rules.specs.declared.answer.Answer.{Answer}
use Rattle.call_rules.specs.declared.want.Want.{Want}
use Rattle.call_rules.specs.Mailing.{tells_name}
use Rattle.call_rules.specs.Making.{probes}
use Rattle.call_scripts.specs.Reaches.{after_opening}
use Rattle.call_scripts.proofs.paths.mail_wants.Goals as goal

-- what goes on in the open box
abbrev in_box : List ℕ → List ℕ → ℕ → Serial → List Answer → Want
in_box name bytes group p more = probes p group name File None bytes (tells_name name) more

pub returns-in-Wants : goal.returns-in-Wants
returns-in-Wants c = sym (ap (after_opening (in_box c.args.message.name.now c.args.message.bytes.now)) c.in-Wants.is) ∙ c.in_ok-want.ensures (in_box c.args.message.name.now c.args.message.bytes.now)

pub returns-in-Open : goal.returns-in-Open
returns-in-Open c =
    subst (λ (z : Want). IfOk c.probes.result (λ w. w ≡ z))
    (sym (ap (after_opening (in_box c.args.message.name.now c.args.message.bytes.now)) c.in-Open.is) ∙ c.in_ok-want.ensures (in_box c.args.message.name.now c.args.message.bytes.now))
    c.probes.ensures
