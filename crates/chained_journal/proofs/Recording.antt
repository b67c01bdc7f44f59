-- A record in its parts, and that none stands where the parts are others.
use Rattle.std.proofs.Common.{◌≡◌, ◌⊎◌, ⊎_elim, ℕ, ◌+◌, ◌<◌, List, ◌++◌, length, take, sym, ◌∙◌, ap, subst, arith, append_assoc, length-append}
use Rattle.std.specs.Int.{w32, from_be_bytes}
use Rattle.ar_base.specs.Bytes.{AreBytes}
use Rattle.ar_bytes.proofs.Passing.{length-number_text, wide32}
use Rattle.ar_bytes.specs.RoundTrip.{number_text}
use Rattle.sha2.proofs.Facts256.{length-sha256}
use Rattle.chained_journal.specs.Journal.{HasNoRecord, IsShort, complement, filling, link, record_len, record_text, text_string, wanting}
use Rattle.chained_journal.specs.Parts.{ArePartsOf, AreSpelled}
use Rattle.chained_journal.proofs.Rereading.{first_number, number_back}
use Rattle.chained_journal.proofs.Splits.{fronts, length-filling, length-record, record-parts, rests, tail}

spelled-len : (len : List ℕ) (n : ℕ) → length len ≡ 4 → AreBytes len → n ≡ from_be_bytes w32 len → len ≡ number_text w32 n
unfolding number_text
spelled-len len n four are is = sym (wide32.back len four are) ∙ ap (λ (m : ℕ). number_text w32 m) (sym is)

module _ (bytes len lacking text zeros digest behind : List ℕ) (parts : ArePartsOf bytes len lacking text zeros digest behind) (are : AreBytes len) where
  pub short_text : IsShort text
  short_text = omega (arith, parts.text_size, wide32.below len are)

  module _ (chain next : List ℕ) (next_is : next ≡ link chain text) where
    pub whole_record : AreSpelled lacking text zeros digest next → bytes ≡ record_text chain text ++ behind
    whole_record spelled =
        let n : ℕ = length text in
        let first : len ≡ number_text w32 n = spelled-len len n parts.len_size are parts.text_size in
        let one : bytes ≡ number_text w32 n ++ (lacking ++ (text ++ (zeros ++ (digest ++ behind)))) =
        parts.are ∙ ap (λ (l : List ℕ). l ++ (lacking ++ (text ++ (zeros ++ (digest ++ behind))))) first in
        let two : bytes ≡ number_text w32 n ++ (number_text w32 (complement n) ++ (text ++ (zeros ++ (digest ++ behind)))) =
        one ∙ ap (λ (l : List ℕ). number_text w32 n ++ (l ++ (text ++ (zeros ++ (digest ++ behind))))) spelled.lacking_is in
        let three : bytes ≡ number_text w32 n ++ (number_text w32 (complement n) ++ (text ++ (filling n ++ (digest ++ behind)))) =
        two ∙ ap (λ (l : List ℕ). number_text w32 n ++ (number_text w32 (complement n) ++ (text ++ (l ++ (digest ++ behind))))) spelled.zeros_are in
        let four : bytes ≡ number_text w32 n ++ (number_text w32 (complement n) ++ tail chain text behind) =
        three ∙ ap (λ (l : List ℕ). number_text w32 n ++ (number_text w32 (complement n) ++ (text ++ (filling n ++ (l ++ behind))))) (spelled.chain_is ∙ next_is) in
        four ∙ sym (append_assoc (number_text w32 n) (number_text w32 (complement n)) (tail chain text behind)) ∙ sym (record-parts chain text behind)

    pub no_record : ¬ AreSpelled lacking text zeros digest next → HasNoRecord chain bytes
    no_record other t rest short some is =
        let n : ℕ = length t in
        let split : len ++ (lacking ++ (text ++ (zeros ++ (digest ++ behind)))) ≡ number_text w32 n ++ (number_text w32 (complement n) ++ tail chain t rest) =
        sym parts.are ∙ is ∙ record-parts chain t rest ∙ append_assoc (number_text w32 n) (number_text w32 (complement n)) (tail chain t rest) in
        let four : length len ≡ length (number_text w32 n) = parts.len_size ∙ sym (length-number_text w32 n) in
        let first : len ≡ number_text w32 n = fronts len (number_text w32 n) _ _ four split in
        let size : length text ≡ n = parts.text_size ∙ ap (from_be_bytes w32) first ∙ number_back n short in
        let split2 : lacking ++ (text ++ (zeros ++ (digest ++ behind))) ≡ number_text w32 (complement n) ++ tail chain t rest = rests len (number_text w32 n) _ _ four split in
        let four2 : length lacking ≡ length (number_text w32 (complement n)) = parts.complement_size ∙ sym (length-number_text w32 (complement n)) in
        let second : lacking ≡ number_text w32 (complement n) = fronts lacking (number_text w32 (complement n)) _ _ four2 split2 in
        let split3 : text ++ (zeros ++ (digest ++ behind)) ≡ t ++ (filling n ++ (link chain t ++ rest)) = rests lacking (number_text w32 (complement n)) _ _ four2 split2 in
        let third : text ≡ t = fronts text t _ _ size split3 in
        let split4 : zeros ++ (digest ++ behind) ≡ filling n ++ (link chain t ++ rest) = rests text t _ _ size split3 in
        let five : length zeros ≡ length (filling n) = parts.filling_size ∙ ap wanting size ∙ sym (length-filling n) in
        let fourth : zeros ≡ filling n = fronts zeros (filling n) _ _ five split4 in
        let split5 : digest ++ behind ≡ link chain t ++ rest = rests zeros (filling n) _ _ five split4 in
        let fifth : digest ≡ link chain t = fronts digest (link chain t) _ _ (parts.chain_size ∙ sym (length-sha256 (text_string chain t))) split5 in
        other (record {
          lacking_is = second ∙ ap (λ (m : ℕ). number_text w32 (complement m)) (sym size);
          zeros_are = fourth ∙ ap filling (sym size);
          chain_is = fifth ∙ ap (link chain) (sym third) ∙ sym next_is;
        })

-- too few bytes
pub few_bytes : (chain bytes : List ℕ) → (length bytes < 8) ⊎ (length bytes < record_len (from_be_bytes w32 (take 4 bytes)) + 8) → HasNoRecord chain bytes
few_bytes chain bytes few text rest short some is =
    let number : from_be_bytes w32 (take 4 bytes) ≡ length text = ap (λ (l : List ℕ). from_be_bytes w32 (take 4 l)) is ∙ first_number chain text rest short in
    let long : length bytes ≡ record_len (length text) + length rest =
    ap length is ∙ length-append (record_text chain text) rest ∙ ap (λ (n : ℕ). n + length rest) (length-record chain text) in
    ⊎_elim
    (λ (small : length bytes < 8). absurd (omega (arith, long, some)))
    (λ (small : length bytes < record_len (from_be_bytes w32 (take 4 bytes)) + 8).
    let least : length bytes < record_len (length text) + 8 = subst (λ (n : ℕ). length bytes < record_len n + 8) number small in
    absurd (omega (arith, long, some, least)))
    few
