-- Why an owner signs a staple, and what each owner that is kept keeps.
use Rattle.std.specs.Prelude.{◌≡◌, ◌<◌, ◌⊎◌, ℕ, true, false, List, Some, Ok}
use Rattle.std.specs.List.{AllByRecursion}
use Rattle.ar_cert.specs.Certificate.{Certificate, digest_of}
use Rattle.ar_statement.specs.Claims.{Claim, answer, text_of}
use Rattle.bound_challenge.specs.Challenges.{staple_challenge}
use Rattle.client_rule.specs.Meaning.{Accepts}
use Rattle.lms_tree.specs.Key.{public_of}
use Rattle.lms_tree.specs.LmsKind.{leaves_of}
use Rattle.lms_tree.specs.PublicKey.{key_text}
use Rattle.sign_book.specs.Book.{Book, IsSignBook}
use Rattle.sign_book.specs.Entry.{after_entry, leaf_of}
use Rattle.owner_keeper.specs.Keeping.{OwnerStanding, draft_of}
use Rattle.owner_keeper.specs.Stapling.{StapleParts, asked_for, free_of, has_newer, is_allowed, is_stapled, kept_back, staple_at}
use Rattle.owner_keeper.specs.declared.permit.Permit.{Permit}
use Rattle.owner_keeper.specs.declared.reply.OwnerReply.{OwnerReply}
use Rattle.owner_keeper.specs.declared.reply.OwnerReply.TheVariants.{Stapled}

-- Why it signed a staple, and what it replied: there is the draft, with the owner's own key, and the TLS key is allowed. A client with the
-- owner's directory accepts the confirmation in the confirmation's own epoch, with a certificate that has the draft's digest. And the
-- staple of that epoch was signed before, or none of a later one was, and more leaves are left than are kept back.
pub record HasReasons (party : OwnerStanding) (permit : Permit) (confirmation : List ℕ) (reply : OwnerReply) : Type 0 where
  pub cert : Certificate
  pub known : draft_of party permit.draft ≡ Some cert
  pub own : key_text cert.subject ≡ key_text (public_of party.owner.key)
  pub allowed : is_allowed party.stapling.allowed permit ≡ true
  pub found : Certificate
  pub epoch : ℕ
  pub root : List ℕ
  pub accepts : Accepts (asked_for party.stapling.keys cert confirmation) confirmation found (digest_of cert) epoch root
  pub again_or_new : (is_stapled party.stapling.staples (staple_at permit epoch) ≡ true)
      ⊎ ((has_newer party.stapling.staples (staple_at permit epoch) ≡ false) × (kept_back party.owner.book.leaves < free_of party.owner.book))
  pub signature : List ℕ
  pub reply_is : reply ≡ Stapled (digest_of cert) epoch permit.channel signature

-- a text has a leaf of the book, and entered again it changes nothing
abbrev pub HasLeaf : Book → List ℕ → Type 0
HasLeaf book text = (leaf : ℕ) × (leaf_of book text ≡ Ok leaf) × (after_entry book text ≡ book)

-- what a staple for a certificate says
abbrev pub staple_claim : Certificate → StapleParts → Claim
staple_claim cert s = answer cert.name (digest_of cert) (staple_challenge s.epoch s.channel)

-- a staple has its leaf
abbrev pub IsServed : OwnerStanding → StapleParts → Type 0
IsServed party s = (cert : Certificate) × (draft_of party s.draft ≡ Some cert) × HasLeaf party.owner.book (text_of (staple_claim cert s))

-- What an owner keeps whatever it is asked: its book is one, of all leaves of its key; the directory of its client is its own; and each
-- staple that it signed has its leaf.
pub record IsKept (party : OwnerStanding) : Type 0 where
  pub book : IsSignBook party.owner.book
  pub leaves : party.owner.book.leaves ≡ leaves_of party.owner.key.lms
  pub keys : party.stapling.keys ≡ party.owner.directory
  pub served : AllByRecursion (IsServed party) party.stapling.staples
