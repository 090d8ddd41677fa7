use Rattle.std.proofs.Common.{◌≡◌, ◌∙◌, ◌&&◌, ap}
use Rattle.locus_ids.specs.declared.ids.CallId.{CallId}
use Rattle.promises.specs.Past.{Site, asks}
use Rattle.promises.specs.Rows.{gives, is_due, is_home}
use Rattle.audit_sites.specs.Rows.{row_of}
use Rattle.audit_call_rows.specs.Asked.{is_home_at}
use Rattle.audit_told_calls.proofs.Found.{and_both, and_none}
use Rattle.audit_told_calls.proofs.answers.is_scripted.Goals as goal

pub returns-then-not-is_home : goal.returns-then-not-is_home
returns-then-not-is_home c = and_none (is_home c.args.told.now c.args.row.now) (is_due c.args.told.now.last c.args.row.now && gives (asks c.args.config.now c.args.told.now c.args.row.now) c.args.reply.now)
    (c.if-not-is_home.ensures ∙ ap (λ (s : Site). is_home_at s.epoch c.args.row.now) (c.site_at-site.ensures ∙ (ap (λ ss. row_of ss c.id.result.site) c.sites.ensures ∙ ap (λ (i : CallId). row_of c.args.told.now.sites i.site) c.id.ensures)))

pub returns : goal.returns
returns c = and_both c.gives.result (is_home c.args.told.now c.args.row.now) (is_due c.args.told.now.last c.args.row.now && gives (asks c.args.config.now c.args.told.now c.args.row.now) c.args.reply.now)
    (c.if-not-is_home.ensures ∙ ap (λ (s : Site). is_home_at s.epoch c.args.row.now) (c.site_at-site.ensures ∙ (ap (λ ss. row_of ss c.id.result.site) c.sites.ensures ∙ ap (λ (i : CallId). row_of c.args.told.now.sites i.site) c.id.ensures)))
    (and_both c.gives.result (is_due c.args.told.now.last c.args.row.now) (gives (asks c.args.config.now c.args.told.now c.args.row.now) c.args.reply.now)
    (c.if-not-is_due.ensures ∙ ap (λ l. is_due l c.args.row.now) c.seen.ensures)
    (c.gives.ensures ∙ ap (λ v. gives v c.args.reply.now) c.in_ok-asked.ensures))
