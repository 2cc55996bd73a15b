-- How an App starts.
use Rattle.std.specs.Prelude.{◌≡◌, ℕ, List, Result, Ok, Err}
use Rattle.sheet_define.specs.Definitions.{Defines}
use Rattle.sheet_define.specs.declared.read.DefinitionRefusal.{DefinitionRefusal}
use Rattle.sheet_define.specs.declared.read.DefinitionRefusal.TheVariants.{NoMemory as NoMemoryToRead}
use Rattle.sheet_define_data.specs.declared.definition.Definition.{Definition}
use Rattle.sheet_define_data.specs.Grammar.{IsDefinition}
use Rattle.sheet_types_formulas.specs.declared.refusal.TypeRefusal.{TypeRefusal}
use Rattle.sheet_types_formulas.specs.declared.refusal.TypeRefusal.TheVariants.{NoMemory as NoMemoryToType}
use Rattle.sheet_types.specs.Elaboration.{elaborated}
use Rattle.sheet_books.specs.declared.book.Contents.{Contents}
use Rattle.sheet_machine_laws.specs.Machine.{start}
use Rattle.sheet_machine.specs.declared.held.Held.{Held}
use Rattle.sheet_machine.specs.Answers.{in_memory}
use Rattle.sheet_machine.specs.Recording.{App}
use Rattle.sheet_machine.specs.StartsFrom.{StartsFrom}
use Rattle.sheet_machine.specs.Held.{holding, IsReady}
use Rattle.sheet_machine.specs.declared.starting.StartRefusal.{StartRefusal}
use Rattle.sheet_machine.specs.declared.starting.StartRefusal.TheVariants.{Definition as StandsForNone, Types, NoMemory}

-- the text stands for a definition that has no book
pub record HasNoBook (text : List ℕ) (why : TypeRefusal) : Type 0 where
  pub definition : Definition
  pub stands : IsDefinition text definition
  pub refused : elaborated definition ≡ Err why
  pub not_memory : why ≡ NoMemoryToType → ⊥

-- the text stands for no definition
pub record IsNoDefinition (text : List ℕ) (why : DefinitionRefusal) : Type 0 where
  pub refused : Defines text (Err why)
  pub not_memory : why ≡ NoMemoryToRead → ⊥

-- what starting comes to: an App without a journal, in which nothing is in doubt; want of memory alone is free
abbrev pub Starts : List ℕ → List ℕ → Result App StartRefusal → Type 0
Starts text key (Ok a) = StartsFrom text key a.machine.held × (a ≡ in_memory a.machine.held)
Starts text key (Err (StandsForNone why)) = IsNoDefinition text why
Starts text key (Err (Types why)) = HasNoBook text why
Starts text key (Err NoMemory) = Unit {0}

-- the same, for what an App holds
abbrev pub Opens : List ℕ → List ℕ → Result Held StartRefusal → Type 0
Opens text key (Ok h) = StartsFrom text key (holding h) × IsReady h
Opens text key (Err (StandsForNone why)) = IsNoDefinition text why
Opens text key (Err (Types why)) = HasNoBook text why
Opens text key (Err NoMemory) = Unit {0}

-- and for a definition that was read
abbrev pub OpensDefinition : Definition → List ℕ → Result Held StartRefusal → Type 0
OpensDefinition d key (Ok h) = (book : Contents) × (elaborated d ≡ Ok book) × (holding h ≡ start book key) × IsReady h
OpensDefinition d key (Err (StandsForNone why)) = ⊥
OpensDefinition d key (Err (Types why)) = (elaborated d ≡ Err why) × (why ≡ NoMemoryToType → ⊥)
OpensDefinition d key (Err NoMemory) = Unit {0}
