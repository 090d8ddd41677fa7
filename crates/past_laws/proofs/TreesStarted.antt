-- Which groups have started, by both formulations.
use Rattle.std.proofs.Common.{◌≡◌, ℕ, ◌==◌, Bool, true, false, cond, ◌&&◌, ◌||◌, List, ◌∷◌, refl, sym, ap, ◌∙◌}
use Rattle.locus_ids.specs.declared.config.Config.{Config}
use Rattle.locus_ids.specs.declared.ids.EpochId.{EpochId}
use Rattle.locus_ids.specs.declared.ids.Brought.{Brought}
use Rattle.trace_book.specs.Same.{same_epoch}
use Rattle.trace_book.specs.declared.record.Record.{Record}
use Rattle.trace_book.specs.declared.record.Record.TheVariants as says
use Rattle.tree_model.specs.Folds.{Trace}
use Rattle.tree_model.specs.Histories.{history}
use Rattle.tree_model.specs.State.{TreeState}
use Rattle.tree_model.specs.Tree.{tree_of, next}
use Rattle.promises.specs.of_lawful_trace.Lawful.{MayCome}
use Rattle.promises.specs.Past.{Past, Epoch, is_number, epoch_at}
use Rattle.promises.specs.After.{after}
use Rattle.past_laws.specs.Agreement.{Agrees}
use Rattle.past_laws.proofs.TreesAt.{at_own, at_other, by_epoch}
use Rattle.past_laws.proofs.TreesFolds.{group_is}
use Rattle.past_laws.proofs.TreesFormed.{formed_served, is_own, is_other}
use Rattle.past_laws.proofs.TreesKept.{IsBlind, IsBlindTree, stays}

-- the group has started after the record, by both
abbrev pub StartedAfter : Config → Record → Trace → Past → EpochId → ℕ → Type 0
StartedAfter c r before p e group = is_number (epoch_at (after c r p) e).started group ≡ (next (history c before) r (tree_of c e group before)).started

flag : (b : Bool) (t : TreeState) → (b || t.started) ≡ (cond b (record t { started = true }) t).started
flag true t = refl
flag false t = refl

started_start : (c : Config) (before : Trace) (p : Past) (a : EpochId) (g : ℕ) → (bs : List Brought) → MayCome c before (says.Start a g bs) → Agrees c before p → (e : EpochId) (group : ℕ) → StartedAfter c (says.Start a g bs) before p e group
started_start c before p a g bs may k e group = by_epoch (λ x. StartedAfter c (says.Start a g bs) before p x group) a e own other
  where
    new : Epoch → Epoch
    new t = record t { started = g ∷ t.started }

    t : EpochId → TreeState
    t x = tree_of c x group before

    own : StartedAfter c (says.Start a g bs) before p a group
    own = ap (λ (u : Epoch). is_number u.started group) (at_own new (λ u. refl) p a (formed_served c before p k.epochs a g may.served))
        ∙ (ap (λ b. (g == group) || b) (k.trees.started a group)
        ∙ (flag (g == group) (t a)
        ∙ sym (ap (λ b. (cond (b && (g == (t a).group)) (record (t a) { started = true }) (t a)).started) (is_own c a group before) ∙ ap (λ n. (cond (g == n) (record (t a) { started = true }) (t a)).started) (group_is c a group before))))

    other : same_epoch e a ≡ false → StartedAfter c (says.Start a g bs) before p e group
    other h = ap (λ (u : Epoch). is_number u.started group) (at_other new (λ u. refl) p a e h)
        ∙ (k.trees.started e group
        ∙ sym (ap (λ b. (cond (b && (g == (t e).group)) (record (t e) { started = true }) (t e)).started) (is_other c a e group before h)))

still : (c : Config) (r : Record) (before : Trace) (p : Past) → Agrees c before p → (e : EpochId) (group : ℕ) → IsBlind (λ (t : Epoch). is_number t.started group) r → IsBlindTree (λ (t : TreeState). t.started) r → StartedAfter c r before p e group
still c r before p k e group blind other = stays (λ (t : Epoch). is_number t.started group) (λ (t : TreeState). t.started) c r before p e group blind other (k.trees.started e group)

pub started_step : (c : Config) (r : Record) (before : Trace) (p : Past) → MayCome c before r → Agrees c before p → (e : EpochId) (group : ℕ) → StartedAfter c r before p e group
started_step c (says.Start a g bs) before p may k e group = started_start c before p a g bs may k e group
started_step c (says.Up s b) before p may k e group = still c (says.Up s b) before p k e group tt (λ t ns. refl)
started_step c (says.Stopped s w) before p may k e group = still c (says.Stopped s w) before p k e group (λ t ls. refl) (λ t ns. refl)
started_step c (says.Leave s a) before p may k e group = still c (says.Leave s a) before p k e group (λ t ls. refl) (λ t ns. refl)
started_step c (says.Join s a m) before p may k e group = still c (says.Join s a m) before p k e group (λ t m. refl, λ t js vs. refl) (λ t ns. refl, λ t m ns cs bs. refl)
started_step c (says.Accept s q id words) before p may k e group = still c (says.Accept s q id words) before p k e group (λ t w. refl) (λ t cs. refl)
started_step c (says.Grant a id n i m f stamp ss) before p may k e group = still c (says.Grant a id n i m f stamp ss) before p k e group (λ t gs xs. refl) (λ t gs xs. refl)
started_step c (says.Refuse a id n i m f why) before p may k e group = still c (says.Refuse a id n i m f why) before p k e group (λ t ms. refl) (λ t ms. refl)
started_step c (says.Act a i n o result) before p may k e group = still c (says.Act a i n o result) before p k e group (λ t xs ms. refl) (λ t xs ms. refl)
started_step c (says.Commit f s stamp ps content) before p may k e group = still c (says.Commit f s stamp ps content) before p k e group (λ t xs. refl) (λ t cs xs. refl)
started_step c (says.Release a i f stamp) before p may k e group = still c (says.Release a i f stamp) before p k e group (λ t vs xs ms. refl) (λ t vs xs ms. refl)
started_step c (says.Adopt f s stamp) before p may k e group = still c (says.Adopt f s stamp) before p k e group tt (λ t cs. refl)
started_step c (says.Answer s q id r) before p may k e group = still c (says.Answer s q id r) before p k e group (λ t w fs. refl) tt
started_step c (says.Look a id n f w result) before p may k e group = still c (says.Look a id n f w result) before p k e group tt tt
started_step c (says.Packet n from to kind) before p may k e group = still c (says.Packet n from to kind) before p k e group tt tt
started_step c says.Void before p may k e group = still c says.Void before p k e group tt tt
started_step c says.Budget before p may k e group = still c says.Budget before p k e group tt tt
