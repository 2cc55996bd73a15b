-- What `init` comes to, from what its calls tell.
use Rattle.std.proofs.Common.{◌≡◌, ℕ, List, [], subst}
use Rattle.sheet_outside.specs.Told.{WhereTold}
use Rattle.sheet_books.specs.declared.book.Contents.{Contents}
use Rattle.objsheet_status.specs.Outside.{Outside, Says}
use Rattle.objsheet_init.specs.Beginning.{Begun, first_entry}
use Rattle.objsheet_check.specs.Checking.{HasBook, HasNoBook, IsRefusedText}
use Rattle.objsheet_check.specs.Initialising.{Inits}
use Rattle.objsheet_check.specs.Initialising.Inits.{has_begun, is_unfit}

-- the journal of the text that was read was begun
pub begun : (name key text read : List ℕ) (status : ℕ) (a b : Outside) → read ≡ text → (book : Contents) × HasBook text book →
    WhereTold (λ input left. (input ≡ text) × (left ≡ [])) a.input.told b.input.told →
    Begun name (first_entry key read) status a.output b.output a.disk b.disk → Inits name key status a b
begun name key text read status a b same fit found begins =
    let B : List ℕ → Type 0 = λ t. Begun name (first_entry key t) status a.output b.output a.disk b.disk in
    has_begun text fit.0 fit.1 found (subst B same begins)

-- the input was refused, and the line that says why is the one due
pub unfit : (name key line said : List ℕ) (status : ℕ) (a b : Outside) → said ≡ line →
    WhereTold (λ input left. IsRefusedText input line × HasNoBook input) a.input.told b.input.told → Says said 1 status a.output b.output → b.disk ≡ a.disk →
    Inits name key status a b
unfit name key line said status a b same found says disk =
    let S : List ℕ → Type 0 = λ l. Says l 1 status a.output b.output in
    is_unfit line found (subst S same says) disk
