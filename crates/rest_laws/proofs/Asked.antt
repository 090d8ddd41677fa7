-- What the laws of scripts and of answers give of those steps that take them.
use Rattle.std.proofs.Common.{◌≤◌, List, length, refl}
use Rattle.locus_ids.specs.declared.config.Config.{Config}
use Rattle.role_steps.specs.Using.{close_answer}
use Rattle.the_run.specs.Worlds.{Line}
use Rattle.tree_model.specs.Calls.{waiting}
use Rattle.lawful_trace.specs.CallRows.{is_this}
use Rattle.tree_laws.proofs.Waiting.{found_among}
use Rattle.tree_laws.specs.Printed.{entries}
use Rattle.tree_laws.specs.Packets.{serial_of}
use Rattle.tree_laws.specs.Serials.{serial_asked}
use Rattle.store_laws.specs.Users.Rests.{ActRests, CloseRests, LookRests, OpenRests, ReadRests, ReplyRests, RequestRests}
use Rattle.store_laws.proofs.ScriptOpened.{opened_as}
use Rattle.store_laws.proofs.ScriptReading.{read_again, reopened_granted}
use Rattle.store_laws.proofs.ScriptReplies.{gives_unchanged, strays_never}
use Rattle.store_laws.proofs.ScriptSaid.{open_numbered, resolution_said}
use Rattle.store_laws.proofs.ScriptWholes.{whole_served, wholes_brought}
use Rattle.store_laws.proofs.Serving.{looked_stands}
use Rattle.store_laws.proofs.AnswerAnswering.{act_waits, close_waits}
use Rattle.store_laws.proofs.AnswerMending.{mend_waits}
use Rattle.store_laws.proofs.AnswerOwning.{owner_numbered}
use Rattle.store_laws.proofs.AnswerUnasked.{opens_unasked}
use Rattle.store_laws.proofs.OneTree.RemoveRemovers.{sees_target}
use Rattle.store_laws.specs.OneTree.UserStepRests.{UserRests}
use Rattle.store_laws.specs.OneTree.Rest.{Past}
use Rattle.store_laws.proofs.OneTree.Staying.{rest_below}
use Rattle.rest_laws.specs.Asking.{OpensAreSaid}
use Rattle.rest_laws.proofs.ReadBytes.{gave_bytes}
use Rattle.rest_laws.proofs.StoreStepReading.{reads_kept}

pub opens_said : (c : Config) (t : List Line) → Past c t → OpensAreSaid c t
opens_said c t past = record {
  numbered = λ e d request serial f q asks plain none. open_numbered c t e d request serial f q past.followed asks plain none;
  resolves = λ e d request serial f site asks w named. resolution_said c t e d request serial f site past.followed asks w named;
}

requests : (c : Config) (t : List Line) → Past c t → RequestRests c t
requests c t past = record {
  owner = λ e d i o inside there asks. owner_numbered c t past.followed e d i o inside there asks;
  sees = λ f w u i name ino now k asks. sees_target c t f w u i name ino past.followed now k asks;
}

replies : (c : Config) (t : List Line) → Past c t → ReplyRests c t
replies c t past = record {
  strays = λ d caller e k is. strays_never c t d caller e past.followed k is;
  unchanged = λ d caller e old k is. gives_unchanged c t d caller e old past.followed k is;
  opened = λ d caller e fd k gives. opened_as c t d caller e fd past.followed k gives;
  read = λ d caller e bytes x k gives granted. read_again c t d caller e bytes x past.followed k gives granted;
  reread = λ d caller e bytes kept last k gives starts. (
    reopened_granted c t d caller e bytes past.followed k gives kept last starts,
    reads_kept c t past.followed past.rest.each d caller kept last k.named (found_among (is_this caller.site caller.process d) (waiting (entries t)) caller k.waits) starts,
  );
}

looks : (c : Config) (t : List Line) → Past c t → LookRests c t
looks c t past = record {
  stands = λ trace e d request times f w s h was. looked_stands c trace h e d request times f w s was;
  whole = λ e d request times f asked s was. whole_served c t e d request times f asked s past.followed was;
  wholes = λ d caller file stamp named asked. wholes_brought c t d caller file stamp named asked;
}

acts : (c : Config) (t : List Line) → Past c t → ActRests c t
acts c t past = record {
  done = λ e d i o n r here asked counted fact. (act_waits c t e d i o fact.0 n r past.followed (record { accepted = here.caller; named = here.named; made_in = here.made_in }) here.inside asked counted fact.1).0;
  same = λ e d i o p n r here asked counted was. (act_waits c t e d i o p n r past.followed (record { accepted = here.caller; named = here.named; made_in = here.made_in }) here.inside asked counted was).1;
}

reads : (c : Config) (t : List Line) → Past c t → ReadRests c t
reads c t past = record { gave = λ e i n at len bytes d request file stamp ss done was. (gave_bytes c t past.followed past.rest.each e i n at len bytes d request file stamp ss done was).1 }

opens : (c : Config) (t : List Line) → Past c t → OpenRests c t
opens c t past = record {
  unasked = λ e d here asks. opens_unasked c t past.followed e d (serial_of d.site (serial_asked c t d)) (record { accepted = here.caller; named = here.named; made_in = here.made_in }) here.inside asks refl refl;
  mending = λ e d request i file stamp ss here was same. mend_waits c t past.followed (rest_below c t past.rest) e d request i file stamp ss was same;
}

closes : (c : Config) (t : List Line) → Past c t → CloseRests c t
closes c t past = record {
  closed = λ e d i a here asked fact. close_waits c t past.followed e d i fact.0 (close_answer a) (record { accepted = here.caller; named = here.named; made_in = here.made_in }) asked fact.1;
}

-- what the steps of using sites take
pub user_rests : (c : Config) → length c.packs ≤ 4 → UserRests c
user_rests c few = record {
  few = few;
  requests = requests c;
  replies = replies c;
  looks = looks c;
  acts = acts c;
  reads = reads c;
  opens = opens c;
  closes = closes c;
}
