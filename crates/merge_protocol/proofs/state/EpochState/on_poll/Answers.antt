use Rattle.std.proofs.Common.{◌≡◌, ◌∙◌, ◌++◌, ap, subst, OnOk}
use Rattle.locus_ids.specs.declared.sites.Sites.{Sites}
use Rattle.site_frame.specs.Printed.{printed}
use Rattle.role_steps.specs.Views.{Outcome, SiteView}
use Rattle.epoch_rules.specs.Answers.{poll_answer}
use Rattle.merge_protocol.specs.Parts.{EpochPart, promises_to, alone}
use Rattle.merge_protocol.proofs.Leaving.{promise_is}
use Rattle.merge_protocol.proofs.state.EpochState.on_poll.Goals as goal

pub returns-in-Promise-clause-packets : goal.returns-in-Promise-clause-packets
returns-in-Promise-clause-packets c =
    subst (λ (o : Outcome SiteView). OnOk c.promise_to.result (c.promise_to.new.out.packets ≡ c.args.out.now.packets ++ o.sent))
    (ap (λ (r : Sites). promises_to c.args.me r c.args.header.from c.args.header.from_boot c.args.header.id (alone c.args.self.now)) c.reached.ensures
    ∙ promise_is c.args.me c.args.links.now c.args.header.from c.args.header.from_boot c.args.header.id c.args.self.now (c.in-Promise.ensures ∙ ap (λ (s : EpochPart). poll_answer c.args.header.id (record { id = s.promised; installed = s.installed })) c.self.view_is))
    c.promise_to.ensures.packets

pub returns-in-Promise-clause-records : goal.returns-in-Promise-clause-records
returns-in-Promise-clause-records c =
    subst (λ (o : Outcome SiteView). OnOk c.promise_to.result (c.promise_to.new.out.records ≡ c.args.out.now.records ++ printed o.told))
    (ap (λ (r : Sites). promises_to c.args.me r c.args.header.from c.args.header.from_boot c.args.header.id (alone c.args.self.now)) c.reached.ensures
    ∙ promise_is c.args.me c.args.links.now c.args.header.from c.args.header.from_boot c.args.header.id c.args.self.now (c.in-Promise.ensures ∙ ap (λ (s : EpochPart). poll_answer c.args.header.id (record { id = s.promised; installed = s.installed })) c.self.view_is))
    c.promise_to.ensures.records
