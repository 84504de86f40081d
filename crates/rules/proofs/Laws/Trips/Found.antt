-- The bytes of a token that was found: an item's tag, name, words, value and padding, as the grammar wants them.
use Rattle.std.specs.Prelude.{◌≡◌, true, false, ◌∷◌, ◌++◌, ℕ, ◌+◌, ◌-◌, ◌≤◌, ◌<◌, length, take, drop}
use Rattle.std.proofs.Common.{sym, ap, ◌∙◌, add-zero, add-one, arith, length-drop, take-append-drop, drop-drop, drop-cons, get_or-take, length-take-le, ltb-true}
use Rattle.rules.specs.Octets.{Bytes, word_at, padded, part, nul_in, has_nul}
use Rattle.rules.specs.Names.{property_name_reads}
use Rattle.rules.specs.Events.{node_name_at, string_at, property_reads}
use Rattle.rules.proofs.Laws.Tests.{and_true}
use Rattle.rules.proofs.Laws.Octets.{length_part, word_part, nul_byte, nul_before, has_nul_not}
use Rattle.rules.proofs.Laws.Tokens.{BeginSeen, PropSeen, TagSeen}
use Rattle.rules.specs.Grammar.{Word, Pads, Stands}

-- ---- its bytes

-- n bytes, and what stands behind them
split : (s : Bytes) (at n : ℕ) → drop at s ≡ part s at n ++ drop (at + n) s
split s at n = sym (take-append-drop n (drop at s)) ∙ ap (λ (x : Bytes). part s at n ++ x) (drop-drop n at s)

word_found : (s : Bytes) (at v : ℕ) → at + 4 ≤ length s → word_at s at ≡ v → Word v (part s at 4)
word_found s at v h e = record { four = length_part s at 4 h; reads = (rw add-zero at (word_part s at 4 0 (omega arith))) ∙ e }

-- up to the first NUL, and the NUL
nul_split : (x : Bytes) → nul_in x < length x → x ≡ take (nul_in x) x ++ (0 ∷ drop (nul_in x + 1) x)
nul_split x h =
    sym (take-append-drop (nul_in x) x)
    ∙ ap (λ (y : Bytes). take (nul_in x) x ++ y) (drop-cons x (nul_in x) 0 h ∙ rw (nul_byte x h, add-one (nul_in x)))

nul_plain : (x : Bytes) → nul_in x < length x → has_nul (take (nul_in x) x) ≡ false
nul_plain x h =
    let l = length-take-le (nul_in x) x (omega arith) in
    has_nul_not (take (nul_in x) x) (λ i k e. nul_before x i (omega arith) (sym (get_or-take (nul_in x) x i 0 (omega arith)) ∙ e))

-- a tag alone
pub record Tagged (s : Bytes) (at next v : ℕ) : Type 0 where
  pub tag : Bytes
  pub word : Word v tag
  pub bytes : drop at s ≡ tag ++ drop next s

pub tag_found : (s : Bytes) (at next v : ℕ) → TagSeen s at next v → Tagged s at next v
tag_found s at next v t =
    record { tag = part s at 4; word = word_found s at v t.inside t.tag; bytes = rw t.ends (split s at 4) }

pub record Begun (s : Bytes) (at len next : ℕ) : Type 0 where
  pub tag : Bytes
  pub pad : Bytes
  pub word : Word 1 tag
  pub plain : has_nul (node_name_at s at len) ≡ false
  pub pads : Pads (length (node_name_at s at len) + 1) pad
  pub bytes : drop at s ≡ tag ++ (node_name_at s at len ++ (0 ∷ (pad ++ drop next s)))

pub begin_found : (s : Bytes) (at len next : ℕ) → BeginSeen s at len next → Begun s at len next
begin_found s at len next t =
    let x : Bytes = drop (at + 4) s in
    let lx = length-drop (at + 4) s in
    let n = t.name in
    let z = t.ends in
    let i = t.inside in
    let k : ℕ = padded (len + 1) - (len + 1) in
    let h : nul_in x < length x = omega arith in
    let y : drop (len + 1) x ≡ drop (at + 4 + (len + 1)) s = drop-drop (len + 1) (at + 4) s in
    let m : at + 4 + (len + 1) + k ≡ next = omega arith in
    let v : length (node_name_at s at len) ≡ len = length_part s (at + 4) len (omega arith) in
    let g : x ≡ take len x ++ (0 ∷ drop (len + 1) x) = rw (← n) at (nul_split x h) in
    let q : drop (len + 1) x ≡ part s (at + 4 + (len + 1)) k ++ drop next s =
    y ∙ split s (at + 4 + (len + 1)) k ∙ ap (λ (j : ℕ). part s (at + 4 + (len + 1)) k ++ drop j s) m in
    record {
      tag = part s at 4;
      pad = part s (at + 4 + (len + 1)) k;
      word = word_found s at 1 (omega arith) t.tag;
      plain = rw n (nul_plain x h);
      pads = record { whole = rw (length_part s (at + 4 + (len + 1)) k (omega arith)) (rw v (omega arith)) };
      bytes = split s at 4 ∙ ap (λ (r : Bytes). part s at 4 ++ r) (g ∙ ap (λ (r : Bytes). take len x ++ (0 ∷ r)) q);
    }

pub record Propped (s : Bytes) (at len name value next : ℕ) : Type 0 where
  pub tag : Bytes
  pub size : Bytes
  pub off : Bytes
  pub pad : Bytes
  pub word : Word 3 tag
  pub sizes : Word (length (part s value len)) size
  pub offset : Word name off
  pub pads : Pads (length (part s value len)) pad
  pub bytes : drop at s ≡ tag ++ (size ++ (off ++ (part s value len ++ (pad ++ drop next s))))

pub prop_found : (s : Bytes) (at len name value next : ℕ) → PropSeen s at len name value next → Propped s at len name value next
prop_found s at len name value next t =
    let b = t.begins in
    let z = t.ends in
    let i = t.inside in
    let k : ℕ = padded len - len in
    let v : length (part s value len) ≡ len = length_part s value len (omega arith) in
    let m : value + len + k ≡ next = omega arith in
    let n : at + 4 + 4 + 4 ≡ value = omega arith in
    record {
      tag = part s at 4;
      size = part s (at + 4) 4;
      off = part s (at + 4 + 4) 4;
      pad = part s (value + len) k;
      word = word_found s at 3 (omega arith) t.tag;
      sizes = rw v (word_found s (at + 4) len (omega arith) (sym t.size));
      offset = word_found s (at + 4 + 4) name (omega arith) (sym t.offset);
      pads = record { whole = rw (v, length_part s (value + len) k (omega arith)) (omega arith) };
      bytes =
          split s at 4
          ∙ ap (λ (r : Bytes). part s at 4 ++ r)
          (split s (at + 4) 4
          ∙ ap (λ (r : Bytes). part s (at + 4) 4 ++ r)
          (split s (at + 4 + 4) 4
          ∙ ap (λ (r : Bytes). part s (at + 4 + 4) 4 ++ r)
          (ap (λ (j : ℕ). drop j s) n
          ∙ split s value len
          ∙ ap (λ (r : Bytes). part s value len ++ r) (split s (value + len) k ∙ ap (λ (j : ℕ). part s (value + len) k ++ drop j s) m))));
    }

-- a name that is read stands in the strings block
pub stands_found : (strings : Bytes) (offset : ℕ) → property_reads strings offset ≡ true
    → Stands strings offset (string_at strings offset) × (property_name_reads (string_at strings offset) ≡ true)
unfolding property_reads string_at
stands_found strings offset h =
    let x : Bytes = drop offset strings in
    let p = and_true (has_nul x) (property_name_reads (string_at strings offset)) h in
    let k = ltb-true (nul_in x) (length x) p.0 in
    (record { behind = drop (nul_in x + 1) x; here = nul_split x k; plain = nul_plain x k }, p.1)
