-- The words that a client makes keep what its address and its configuration say.
use Rattle.std.proofs.Common.{◌≡◌, ℕ, Bool, true, false, not, Option, Some, None, Result, Ok, Err, IfOk, OnOk, nat_eq, refl, sym, ap, subst, ◌∙◌, if◌then◌else◌}
use Rattle.std.specs.Prelude.{unwrap_or, option_map}
use Rattle.std.proofs.lemmas.Str.{is_utf8-from_IsUtf8}
use Rattle.std.proofs.lemmas.Bool.{eqb-true}
use Rattle.connection_info.specs.declared.address.ConnectionInfo.{ConnectionInfo}
use Rattle.connection_info.specs.declared.address.RedisConnectionInfo.{RedisConnectionInfo}
use Rattle.connection_info.specs.declared.config.AsyncConnectionConfig.{AsyncConnectionConfig}
use Rattle.connection_info.specs.Address.{address_of}
use Rattle.connection_info.specs.Written.{url_of, with_library, ReadsBack}
use Rattle.driver_model.specs.declared.config.Config.{Config}
use Rattle.driver_model.specs.declared.config_words.AddressWords.{AddressWords}
use Rattle.driver_model.specs.Config.{kind_of, address_words, address_in, told_info, bare_info, hearing_in}
use Rattle.driver_model.specs.Hearing.{hears_pushes}
use Rattle.driver_model.specs.declared.kind.SessionKind.{SessionKind}
use Rattle.driver_model.specs.declared.kind.SessionKind.TheVariants as kind
use Rattle.mux_client.specs.Makers.{time_given, number_given, push_given, creds_given, library_given, address_given, config_of, Keeps, KeepsLink}

number_if : (default value : ℕ) (b : Bool) → nat_eq value default ≡ b → unwrap_or (if b then None else Some value) default ≡ value
number_if default value true e = sym (eqb-true value default e)
number_if default value false e = refl

-- a number is what is given, or else the default
pub number_kept : (default value : ℕ) → unwrap_or (number_given default value) default ≡ value
number_kept default value = number_if default value (nat_eq value default) refl

time_if : (default value : ℕ) (b : Bool) → nat_eq value default ≡ b → unwrap_or (if b then None else Some (Some value)) (Some default) ≡ Some value
time_if default value true e = ap (λ (n : ℕ). Some n) (sym (eqb-true value default e))
time_if default value false e = refl

-- and so is a time
pub time_kept : (default value : Option ℕ) → unwrap_or (time_given default value) default ≡ value
time_kept None None = refl
time_kept (Some n) None = refl
time_kept None (Some m) = refl
time_kept (Some n) (Some m) = time_if n m (nat_eq m n) refl

-- the library is left out where the address leaves it out
pub skips_kept : (skips : Bool) → not (unwrap_or (library_given skips) true) ≡ skips
skips_kept true = refl
skips_kept false = refl

-- the URL is one of the address
pub address_kept : (info : ConnectionInfo) → ReadsBack info → address_in (address_given info) ≡ Some (with_library info)
address_kept info (is, reads) =
    ap (λ (b : Bool). if b then address_of (url_of info) else None) (is_utf8-from_IsUtf8 (url_of info) is) ∙ reads

-- what is said to a server by these words, where this is its address
abbrev told_by : AddressWords → Option ConnectionInfo → RedisConnectionInfo
told_by words found = unwrap_or (option_map (λ (info : ConnectionInfo). record info.redis { skip_set_lib_name = not (unwrap_or words.lib true) }) found) bare_info

-- and what is said to the server is what the address says, whatever else the words are
said_kept : (info : ConnectionInfo) (words : Config) → address_words words ≡ address_given info → ReadsBack info → told_info words ≡ info.redis
said_kept info words same back =
    ap (λ (at : AddressWords). told_by at (address_in at)) same
    ∙ ap (told_by (address_given info)) (address_kept info back)
    ∙ ap (λ (skips : Bool). record info.redis { skip_set_lib_name = skips }) (skips_kept info.redis.skip_set_lib_name)

-- whether somebody hears pushes is what is given, or else nobody does
hears_kept : (hears : Bool) → hears_pushes (hearing_in kind.Single (unwrap_or (push_given hears) false)) ≡ hears
hears_kept true = refl
hears_kept false = refl

-- whether credentials come of sources is what is given, or else they don't
pub sources_kept : (provided : Bool) → unwrap_or (creds_given provided) false ≡ provided
sources_kept true = refl
sources_kept false = refl

words_keep : (info : ConnectionInfo) (c : AsyncConnectionConfig) → ReadsBack info → Keeps info c (config_of info c)
words_keep info c back = record {
  said = said_kept info (config_of info c) refl back;
  connects = time_kept _ c.connection_timeout;
  answers = time_kept _ c.response_timeout;
  permits = refl;
  places = number_kept _ c.pipeline_buffer_size;
  pushes = hears_kept c.push_sender;
  sources = sources_kept c.credentials_provider;
  room = number_kept _ c.write_backpressure_boundary;
}

-- so any words keep it that are these
kept_by : (info : ConnectionInfo) (c : AsyncConnectionConfig) (words : Config) → words ≡ config_of info c → ReadsBack info → Keeps info c words
kept_by info c words e back = subst (λ (found : Config). Keeps info c found) (sym e) (words_keep info c back)

-- and so does what is made
pub all_keep : {E : Type 0} (info : ConnectionInfo) (c : AsyncConnectionConfig) (r : Result Config E) → OnOk r (ReadsBack info) → IfOk r (λ words. words ≡ config_of info c) → IfOk r (Keeps info c)
all_keep info c (Ok words) back e = kept_by info c words e back
all_keep info c (Err x) back e = tt

-- and so does what is made for a link of publish/subscribe or of monitor mode
pub link_keeps : {E : Type 0} (what : SessionKind) (info : ConnectionInfo) (made : Config) (r : Result Config E) → kind_of made ≡ what → address_words made ≡ address_given info
    → OnOk r (ReadsBack info) → IfOk r (λ words. words ≡ made) → IfOk r (KeepsLink what info)
link_keeps what info made (Ok words) is same back e = subst (λ (found : Config). KeepsLink what info found) (sym e) (record { is = is; said = said_kept info made same back })
link_keeps what info made (Err x) is same back e = tt
