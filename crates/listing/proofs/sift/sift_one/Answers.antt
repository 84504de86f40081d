-- `sift_one` meets its contract: the node is taken out, or moved up.
use mathlib.Core.Path.{◌≡◌, sym, ap, ◌∙◌}
use mathlib.Core.List.{[], ◌∷◌}
use Prim.Native.Nat.{ℕ, ◌+◌}
use native.Mathlib.Omega.{arith}
use lib.ListN.{get_or}
use Rattle.rules.specs.Octets.{lay}
use Rattle.rules.specs.Space.{list_at}
use Rattle.rules.specs.Laws.Lent.{block_lent}
use Rattle.rules.proofs.Laws.Kept.{node_word}
use Rattle.rules.proofs.Laws.Constants.{list_at_lem}
use Rattle.listing.proofs.Sieved.{sifts-out, sifts-in}
use Rattle.listing.proofs.sift.sift_one.Goals as goal

pub overflow_add-i : goal.overflow_add-i
overflow_add-i c = omega (arith, node_word)

pub returns-then-not-is_spared : goal.returns-then-not-is_spared
returns-then-not-is_spared c =
    let a = c.args in
    record {
      sifts = λ ws n h l s. sifts-out (block_lent a.block.now) ws a.count a.excl.now n l a.work.now a.i a.j s h c.word_of-x.result
          (c.word_of-x.ensures ∙ ap (λ (k : ℕ). get_or a.work.now (k + a.i) 0) list_at_lem) (sym (c.is_spared.ensures) ∙ c.if-not-is_spared.true);
      few = omega (arith, c.requires.0);
    }

pub returns : goal.returns
returns c =
    let a = c.args in
    let e : c.put_word_of.new.d ≡ lay a.work.now (list_at + a.j) (c.word_of-x.result ∷ []) = c.put_word_of.ensures ∙ ap (λ (k : ℕ). lay a.work.now (k + a.j) (c.word_of-x.result ∷ [])) list_at_lem in
    record {
      sifts = λ ws n h l s. rw e (sifts-in (block_lent a.block.now) ws a.count a.excl.now n l a.work.now a.i a.j s h c.word_of-x.result
          (c.word_of-x.ensures ∙ ap (λ (k : ℕ). get_or a.work.now (k + a.i) 0) list_at_lem) (sym (c.is_spared.ensures) ∙ c.if-not-is_spared.false));
      few = omega (arith, c.requires.0);
    }
