use Rattle.std.proofs.Common.{arith, ◌≡◌, None, Some, ap, ◌∙◌}
use Rattle.std.specs.Prelude.{codes}
use Rattle.role_steps.proofs.of_plain_facts.Options.{some_same}
use Rattle.role_steps.proofs.of_plain_facts.Tests.{false_true}
use Rattle.schedule_lines.specs.Cluster.{config_of}
use Rattle.trace_book.specs.declared.call.Call.TheVariants as call
use Rattle.trace_book.specs.declared.reply.Reply.TheVariants as reply
use Rattle.call_rules.specs.declared.want.Want.TheVariants.{Give}
use Rattle.tree_model.specs.declared.accepted.Waiting.{Waiting}
use Rattle.lawful_trace.specs.Progress.{now_wants}
use Rattle.lawful_trace.specs.Samples.{caller, epoch, first_of}
use Rattle.trace_samples.specs.FirstRun.{first_trace}
use Rattle.headline_laws.specs.Prompting.Given.{IsGiven}
use Rattle.headline_laws.specs.Prompting.Wrong.{made_told_as_opened}
use Rattle.headline_laws.proofs.wrong.no_run_tells_these.Goals as goal

-- the create waits
create : Waiting
create = record { site = 1; process = 1; call = caller 1 1 1; words = call.Create (codes "/a") None; epoch = Some (epoch 1 1 1) }

made_opened : Give (reply.Made 2) ≡ Give (reply.Opened 2) → ⊥
made_opened e = cc

-- and is to be told the number of its file
ungiven : IsGiven (config_of made_told_as_opened.lines) (first_of 11 first_trace) 1 1 (caller 1 1 1) (reply.Opened 2) → ⊥
unfolding create
ungiven k = made_opened (ap (now_wants (config_of made_told_as_opened.lines) (first_of 11 first_trace)) (some_same create k.caller k.waits) ∙ k.gives)

pub returns : goal.returns
returns c = record {
  given = λ k. ungiven k.0;
  alone = λ k. cc;
  late = λ k. cc;
  never = λ k. cc;
  out_of_order = λ k. cc;
  refused_late = λ k. cc;
  nobody = λ k. false_true (k.0.2 2 (omega arith)).there;
  placed = λ k. cc;
  unheeded = λ k. cc;
}
