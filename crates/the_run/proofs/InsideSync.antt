-- What a site does in an epoch installs, refuses and joins nothing: a law by kinds.
use Rattle.std.proofs.Common.{ℕ, Option}
use Rattle.role_steps.specs.of_wire_messages.declared.body.Body.{Body}
use Rattle.role_steps.specs.of_wire_messages.declared.body.Body.TheVariants as body
use Rattle.role_steps.specs.Views.{Frame, DiskWrite, first_written}
use Rattle.the_run.specs.Kinds.{IsInside}
use Rattle.the_run.specs.KindLaws.{Law, body_law, SiteKeeps, SiteAnswers}
use Rattle.the_run.specs.Joins.{NoClaim, NoJoin, NoWrite}
use Rattle.the_run.proofs.Premises.{body_keeps, body_answers, plain_no_join, version_no_join}
use Rattle.the_run.proofs.SyncWalks.{then_written}
pub use Rattle.the_run.proofs.Rows.{every_row, every_without, Found, row_found, first_found}

-- ---- the law ----

abbrev pub joins_nothing : Law
joins_nothing = body_law NoClaim NoJoin NoWrite

inside_claims_none : (b : Body) → IsInside b → NoClaim b
inside_claims_none (body.Install members) h = h
inside_claims_none (body.Refuse promised) h = h
inside_claims_none _ h = tt

pub plain_keeps : (f : Frame) → SiteKeeps joins_nothing f
plain_keeps f = body_keeps NoClaim NoJoin NoWrite f inside_claims_none plain_no_join version_no_join tt (λ d. version_no_join d.says)

pub plain_answers : (f : Frame) (from : ℕ) → SiteAnswers joins_nothing f from
plain_answers f from = body_answers joins_nothing f (λ to b. inside_claims_none b) from

-- ---- what is written first ----

pub no_first : (a b : Option DiskWrite) → NoWrite a → NoWrite b → NoWrite (first_written a b)
no_first a b h g = then_written joins_nothing a b h g
