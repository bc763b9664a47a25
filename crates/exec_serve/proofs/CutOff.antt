-- Readers that took some bytes before, and then ended or failed.
use Rattle.std.proofs.Common.{◌≡◌, ◌⊎◌, ◌<◌, ◌≤◌, ℕ, ◌+◌, List, [], ◌∷◌, ◌++◌, length, true, sym, subst, ap, ◌∙◌, arith, length-append, refl, inl, inr}
use Rattle.std.specs.Io.KnownBytes.{IsAtEnd}
use Rattle.exec_msg.specs.declared.limits.TheConstants.{DOCUMENT}
use Rattle.exec_io.specs.Streams.{ReaderState}
use Rattle.exec_serve.specs.declared.requests.Request.{Request}
use Rattle.exec_serve.specs.declared.requests.Request.TheVariants as request
use Rattle.exec_serve.specs.Serving.{IsPartOfRequest, number_bytes}
use Rattle.exec_serve.specs.inner.Requests.{HasEnded, HasTaken, IsRead, IsShort, Takes}
use Rattle.exec_serve.proofs.Bytes.{Consumes-then}

-- fewer bytes came behind some
pub short_behind : (a b c : ReaderState) (bytes : List ℕ) (size left : ℕ) → Takes a b bytes → length bytes + left ≤ size → IsShort b c left → IsShort a c size
short_behind a b c bytes size left before fits (how, (more, few, after)) =
    (how, (bytes ++ more, omega (arith, length-append bytes more, few, fits), Consumes-then _ _ _ bytes more before after))

-- a length didn't come whole
pub ended_in_length : (a b : ReaderState) (taken : List ℕ) → Takes a b taken → 0 < length taken → length taken < 8 → IsAtEnd b.remaining → HasEnded a b
ended_in_length a b taken takes some few end = (taken, takes, inr (inl (end, inl (some, few))))

-- the reader failed in a length
pub failed_in_length : (a b : ReaderState) (taken : List ℕ) → Takes a b taken → length taken < 8 → b.failed ≡ true → HasEnded a b
failed_in_length a b [] takes few failed = ([], takes, inl (failed, inl refl))
failed_in_length a b (one ∷ more) takes few failed = (one ∷ more, takes, inl (failed, inr (inl (omega (arith), few))))

-- a document didn't come whole
pub ended_in_document : (a b c : ReaderState) (size : ℕ) (head : List ℕ) → head ≡ number_bytes size → size ≤ DOCUMENT → Takes a b head → IsShort b c size → HasEnded a c
ended_in_document a b c size head is within before (how, (part, few, after)) =
    let partial : IsPartOfRequest (head ++ part) = inr (size, part, within, few, ap (λ (l : List ℕ). l ++ part) is) in
    let both : Takes a c (head ++ part) = Consumes-then _ _ _ head part before after in
    either how (head ++ part) partial both
  where
    either : ((c.failed ≡ true) ⊎ IsAtEnd c.remaining) → (taken : List ℕ) → IsPartOfRequest taken → Takes a c taken → HasEnded a c
    either (inl failed) taken partial takes = (taken, takes, inl (failed, inr partial))
    either (inr end) taken partial takes = (taken, takes, inr (inl (end, partial)))

-- a length was taken, and then as many bytes
pub read_behind : (a b c : ReaderState) (head bytes : List ℕ) (one : Request) → head ≡ number_bytes (length bytes) → length bytes ≤ DOCUMENT → Takes a b head → Takes b c bytes → IsRead bytes one → HasTaken a c one
read_behind a b c head bytes request.End is within before after read = absurd read
read_behind a b c head bytes (request.Document document) is within before after read =
    let whole : head ++ bytes ≡ number_bytes (length document.items) ++ document.items = ap (λ (l : List ℕ). l ++ bytes) is ∙ ap (λ (l : List ℕ). number_bytes (length l) ++ l) (sym read) in
    (omega (arith, within, ap length read), subst (Takes a c) whole (Consumes-then _ _ _ head bytes before after))
read_behind a b c head bytes request.NoMemory is within before after read = (bytes, within, subst (Takes a c) (ap (λ (l : List ℕ). l ++ bytes) is) (Consumes-then _ _ _ head bytes before after))
