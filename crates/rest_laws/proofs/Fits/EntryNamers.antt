-- Whom an instance was granted to that a descriptor has named opens a file, or is a read that has opened a version again.
use Rattle.std.proofs.Common.{◌≡◌, true, List, Some, ◌⊎◌, inl, inr}
use Rattle.locus_ids.specs.declared.config.Config.{Config}
use Rattle.locus_ids.specs.declared.ids.CallId.{CallId}
use Rattle.locus_ids.specs.declared.ids.EpochId.{EpochId}
use Rattle.locus_ids.specs.declared.ids.Serial.{Serial}
use Rattle.trace_book.specs.declared.descriptor.Descriptor.{Descriptor}
use Rattle.the_run.specs.Worlds.{Line}
use Rattle.tree_model.specs.declared.accepted.Waiting.{Waiting}
use Rattle.tree_model.specs.Calls.{call_named, granted_to, opening_of}
use Rattle.lawful_trace.specs.Tables.{has_named}
use Rattle.tree_laws.specs.Following.{IsFollowed}
use Rattle.tree_laws.specs.Printed.{entries}
use Rattle.store_laws.proofs.AnswerNaming.{NamedSo, granted_opens, namers_open}
use Rattle.store_laws.proofs.ScriptNaming.{Opens, RereadsIn}

pub named_begins : (c : Config) (t : List Line) → IsFollowed c t → (e : EpochId) (i : Serial) (g : CallId) (w : Waiting) → granted_to (entries t) e i ≡ Some g → call_named (entries t) g ≡ Some w → has_named (entries t) g ≡ true → Opens w.words ⊎ RereadsIn t g w.words
named_begins c t h e i g w granted named has = over (namers_open c t h g w o.0 named has o.1)
  where
    o : (x : Descriptor) × (opening_of (entries t) g ≡ Some x)
    o = granted_opens c t h e i g granted

    over : NamedSo t g w.words o.0 → Opens w.words ⊎ RereadsIn t g w.words
    over (inl opens) = inl opens
    over (inr again) = inr again.0
