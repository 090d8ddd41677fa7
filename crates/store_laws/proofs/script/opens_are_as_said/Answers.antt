use Rattle.store_laws.proofs.ScriptSaid.{open_numbered, resolution_said}
use Rattle.store_laws.proofs.script.opens_are_as_said.Goals as goal

pub returns : goal.returns
returns c = record {
  numbered = λ config trace e d request serial f q h asks plain none. open_numbered config trace e d request serial f q h asks plain none;
  resolves = λ config trace e d request serial f site h asks w named. resolution_said config trace e d request serial f site h asks w named;
}
